use Rattle.std.proofs.Common.{IfOk, subst}
use Rattle.std.specs.Prelude.{IfSome}
use Rattle.and_determinacy.specs.Candidates.{IsNarrowed}
use Rattle.and_determinacy.specs.Watching.{TwoStayWhile}
use Rattle.and_branch_parts.specs.Branches.{Held}
use Rattle.and_branch.proofs.branch.Branch.narrow_call.Goals as goal

pub returns-clause-narrowed : goal.returns-clause-narrowed
returns-clause-narrowed g c =
    subst (λ (b : Held). IfOk c.narrow.result (IsNarrowed g.N.Naming.program b.row c.args.goal)) c.self.view_is c.narrow.ensures.narrowed

pub returns-clause-told : goal.returns-clause-told
returns-clause-told g c = λ is.
    subst (λ (b : Held). IfSome c.narrow.new.trials.rests (TwoStayWhile g.N.Naming.program b.row c.args.goal)) c.self.view_is
    (c.narrow.ensures.told is)
