use Rattle.std.proofs.Common.{List, ℕ, sym, subst}
use Rattle.and_cells.specs.Parts.{named}
use Rattle.and_code.specs.Telling.{IsTold}
use Rattle.and_code.specs.Written.{all_written}
use Rattle.and_branch_parts.specs.Branches.{Held, IsBranch, IsBranchOf}
use Rattle.and_branch.proofs.LinesTold.{made_there, code_is, told_there}
use Rattle.and_branch.proofs.branch.Branch.code_of.Goals as goal

pub tell_on-requires-clause-made : goal.tell_on-requires-clause-made
tell_on-requires-clause-made g c =
    let P = g.N.Naming.program in
    let branch = subst (λ (b : Held). IsBranch P b) (sym c.self.view_is) c.requires.branch in
    made_there P (named c.args.loaded.now) c.requires.program _ branch

pub tell_on-requires-clause-told : goal.tell_on-requires-clause-told
tell_on-requires-clause-told g c =
    let Q = named c.args.loaded.now in
    subst (λ (code : List ℕ). IsTold Q.program (all_written c.self.inside.reductions) c.args.told code) (sym c.in_ok-code.ensures)
    (told_there g.N.Naming.program Q c.requires.program _ c.args.self.now c.self.view_is c.args.told c.requires.told)

pub returns : goal.returns
returns g c = λ t x whole.
    let P = g.N.Naming.program in
    code_is P (named c.args.loaded.now) c.requires.program _ t (subst (λ (b : Held). IsBranchOf P b t) (sym c.self.view_is) x) whole
    c.tell_on.new.code c.in_ok-tell_on.ensures.decides
