use Rattle.std.proofs.Common.{ap, sym, subst}
use Rattle.and_cells.specs.Parts.{named}
use Rattle.and_branch_parts.specs.Branches.{Held, IsBranchOf}
use Rattle.and_branch.proofs.LinesTold.{made_there, decided_is, told_there, told_here, goal_missing}
use Rattle.and_branch.proofs.branch.Branch.decide.Goals as goal

pub tell_on-requires-clause-made : goal.tell_on-requires-clause-made
tell_on-requires-clause-made g c =
    let P = g.N.Naming.program in
    let (u, o, y, is_open) = c.requires.goal in
    let branch = subst (λ (b : Held). IsBranchOf P b u) (sym c.self.view_is) y in
    made_there P (named c.args.loaded.now) c.requires.program _ (u, branch)

pub tell_on-requires-clause-told : goal.tell_on-requires-clause-told
tell_on-requires-clause-told g c =
    told_there g.N.Naming.program (named c.args.loaded.now) c.requires.program _ c.args.self.now c.self.view_is c.args.told.now c.requires.told

pub tell_on-requires-clause-known : goal.tell_on-requires-clause-known
tell_on-requires-clause-known g c =
    let (u, o, y, is_open) = c.requires.goal in
    goal_missing g.N.Naming.program c.self.inside.reductions c.args.self.now.reductions (ap (λ (h : Held). h.reductions) c.self.view_is)
    u y.made o c.args.goal is_open

pub returns-clause-told : goal.returns-clause-told
returns-clause-told g c =
    told_here g.N.Naming.program (named c.args.loaded.now) c.requires.program _ c.args.self.now c.self.view_is c.tell_on.new.self
    c.tell_on.new.code c.in_ok-tell_on.ensures.told

pub returns-clause-decided : goal.returns-clause-decided
returns-clause-decided g c = λ t x.
    let P = g.N.Naming.program in
    decided_is P (named c.args.loaded.now) c.requires.program _ t (subst (λ (b : Held). IsBranchOf P b t) (sym c.self.view_is) x)
    c.tell_on.new.code c.in_ok-tell_on.ensures.decides

pub returns-clause-same : goal.returns-clause-same
returns-clause-same g c = ap (λ (h : Held). record h { key = c.tell_on.new.code }) c.self.view_is
