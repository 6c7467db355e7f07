use Rattle.std.proofs.Common.{length, sym, subst}
use Rattle.std.specs.Prelude.{All, Option}
use Rattle.and_cells.specs.Ranges.{IsGoalInRange}
use Rattle.and_branch_parts.specs.Branches.{Held}
use Rattle.and_branch_parts.specs.Finding.{HasHeavy, IsFirstCall}
use Rattle.and_branch_parts.specs.declared.finding.HeavyCall.{HeavyCall}
use Rattle.and_branch_parts.proofs.HeavyCalls.{several_found}
use Rattle.and_branch_parts.proofs.LoadedPrograms.{is_loaded}
use Rattle.and_branch_parts.proofs.RoundsKept.{left_in_range}
use Rattle.and_branch.proofs.branch.Branch.found_with.Goals as goal

pub first_call-requires-clause-in_range : goal.first_call-requires-clause-in_range
first_call-requires-clause-in_range g c =
    let P = g.N.Naming.program in
    let says = c.skeleton_is_of_the_program.ensures in
    let loaded = is_loaded P c.args.loaded.now c.requires.program says.skeleton says.own_variables says.few in
    subst (λ (b : Held). All (IsGoalInRange P (length b.row)) b.left) (sym c.self.view_is)
    (left_in_range P loaded c.args.self.now c.requires.branch c.requires.live)

pub returns-in-Some-first_call : goal.returns-in-Some-first_call
returns-in-Some-first_call g c =
    let P = g.N.Naming.program in
    let none_is = subst (λ (h : Option HeavyCall). HasHeavy P c.args.self.now.limit c.args.self.now.row c.args.self.now.left h) c.in-None.is
    c.requires.seen in
    let first = subst (λ (b : Held). IsFirstCall P b.left c.in-Some-first_call.goal) c.self.view_is c.in-Some-first_call.ensures.some in
    several_found P c.args.self.now.row c.args.self.now.left c.in-Some-first_call.goal first none_is
