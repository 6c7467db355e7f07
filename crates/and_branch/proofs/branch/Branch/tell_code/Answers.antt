use Rattle.std.proofs.Common.{ap, sym, subst}
use Rattle.and_cells.specs.Parts.{named}
use Rattle.and_branch_parts.specs.Branches.{Held, IsBranch, IsBranchOf}
use Rattle.and_branch.proofs.LinesTold.{made_there, code_is, told_there}
use Rattle.and_branch.proofs.branch.Branch.tell_code.Goals as goal

pub tell_on-requires-clause-made : goal.tell_on-requires-clause-made
tell_on-requires-clause-made g c =
    let P = g.N.Naming.program in
    let branch = subst (λ (b : Held). IsBranch P b) (sym c.self.view_is) c.requires.branch in
    made_there P (named c.args.loaded.now) c.requires.program _ branch

pub tell_on-requires-clause-told : goal.tell_on-requires-clause-told
tell_on-requires-clause-told g c =
    told_there g.N.Naming.program (named c.args.loaded.now) c.requires.program _ c.args.self.now c.self.view_is c.args.told c.requires.told

pub returns-clause-same : goal.returns-clause-same
returns-clause-same g c = ap (λ (h : Held). record h { key = c.tell_on.new.code }) c.self.view_is

pub returns-clause-code : goal.returns-clause-code
returns-clause-code g c = λ t x whole.
    let P = g.N.Naming.program in
    code_is P (named c.args.loaded.now) c.requires.program _ t (subst (λ (b : Held). IsBranchOf P b t) (sym c.self.view_is) x) whole
    c.tell_on.new.code c.in_ok-tell_on.ensures.decides
