use Rattle.std.proofs.Common.{rules, ◌≡◌, ◌≤◌, length, refl, sym, subst, arith, w64, to_z, of_z}
use Rattle.std.specs.Prelude.{FitsSigned}
use Rattle.std.proofs.lemmas.Int.{ints, to_z-of_z}
use Rattle.std.proofs.lemmas.Result.{IfOk-weaker, on_ok_weaker}
use Rattle.and_model.specs.declared.limits.TheConstants.{MAX_LIMIT}
use Rattle.and_program.specs.Skeletons.{node_term}
use Rattle.and_cells.specs.Ranges.{NamedProgram, pair_of}
use Rattle.and_step_laws.specs.Assigning.{CanBeAssigned}
use Rattle.and_guards.specs.Sides.{IsSide}
use Rattle.and_reduction.specs.Sides.{AssignsTo, RunsTo}
use Rattle.and_reduction.specs.Trails.{KeepsNoted}
use Rattle.and_reduction.proofs.Noting.{unchanged_noted}
use Rattle.and_reduction.proofs.Outcomes.{waiting_runs, valueless_runs, assignment_runs}
use Rattle.and_reduction.specs.Writes.{SetsNumber, nothing, number}
use Rattle.and_reduction.proofs.running.run_assignment.Goals as goal

pub pair_in-first-requires-clause-clause : goal.pair_in-first-requires-clause-clause
pair_in-first-requires-clause-clause g c =
    subst (λ (Q : NamedProgram). c.args.goal.clause.0 ≤ length Q.program.clauses) c.requires.program c.requires.item.there

pub pair_in-first-requires-clause-short : goal.pair_in-first-requires-clause-short
pair_in-first-requires-clause-short g c =
    let P = g.N.Naming.program in
    let goal = c.args.goal in
    let low = c.requires.item.within in
    let short = c.requires.short in
    let fits : pair_of P goal.clause.0 goal.base c.args.pair ≤ MAX_LIMIT = omega arith in
    subst (λ (Q : NamedProgram). pair_of Q goal.clause.0 goal.base c.args.pair ≤ MAX_LIMIT) c.requires.program fits

pub assign-requires-clause-goal : goal.assign-requires-clause-goal
assign-requires-clause-goal g c =
    let P = g.N.Naming.program in
    let goal = c.args.goal in
    let first = subst (λ (Q : NamedProgram). c.pair_in-first.result ≡ pair_of Q goal.clause.0 goal.base c.args.pair)
    (sym c.requires.program) c.pair_in-first.ensures in
    subst (CanBeAssigned P c.args.cells.now goal.base c.args.left.0) (sym first) c.requires.item.left

pub returns-in-Some-clause-ran : goal.returns-in-Some-clause-ran
returns-in-Some-clause-ran g c =
    let P = g.N.Naming.program in
    let row = c.args.cells.now in
    let goal = c.args.goal in
    let first = subst (λ (Q : NamedProgram). c.pair_in-first.result ≡ pair_of Q goal.clause.0 goal.base c.args.pair)
    (sym c.requires.program) c.pair_in-first.ensures in
    let z = c.in-Some.value in
    let fits : FitsSigned w64 z = search (rules, ints) in
    IfOk-weaker c.assign.result (AssignsTo P row c.assign.new.cells goal.base c.args.left.0 c.pair_in-first.result (to_z w64 (of_z w64 z)))
    (RunsTo P row c.assign.new.cells goal)
    (assignment_runs P row c.assign.new.cells goal c.args.left.0 c.args.right.0 c.args.pair c.requires.item row c.pair_in-first.result
    (to_z w64 (of_z w64 z)) z refl first (to_z-of_z w64 z fits) c.in-Some.ensures)
    c.assign.ensures.assigned

pub evaluate-requires-clause-node : goal.evaluate-requires-clause-node
evaluate-requires-clause-node g c = c.requires.item.right

pub assign_seldom-requires-clause-goal : goal.assign_seldom-requires-clause-goal
assign_seldom-requires-clause-goal g c =
    let P = g.N.Naming.program in
    let goal = c.args.goal in
    let first = subst (λ (Q : NamedProgram). c.pair_in-first-in-Number.result ≡ pair_of Q goal.clause.0 goal.base c.args.pair)
    (sym c.requires.program) c.pair_in-first-in-Number.ensures in
    subst (λ rows. CanBeAssigned P rows goal.base c.args.left.0 c.pair_in-first-in-Number.result) (sym c.evaluate.ensures.unchanged)
    (subst (CanBeAssigned P c.args.cells.now goal.base c.args.left.0) (sym first) c.requires.item.left)

pub returns-in-Waits-clause-ran : goal.returns-in-Waits-clause-ran
returns-in-Waits-clause-ran g c =
    let P = g.N.Naming.program in
    let row = c.args.cells.now in
    let side = subst (IsSide P row c.args.goal.base (node_term P.skeleton.nodes c.args.right.0)) c.in-Waits.is c.in_ok-cell.ensures.side in
    waiting_runs P row c.evaluate.new.cells c.args.goal c.args.left.0 c.args.right.0 c.args.pair c.requires.item c.in-Waits.cell
    c.evaluate.ensures.unchanged side

pub returns-in-NoValue-clause-ran : goal.returns-in-NoValue-clause-ran
returns-in-NoValue-clause-ran g c =
    let P = g.N.Naming.program in
    let row = c.args.cells.now in
    let side = subst (IsSide P row c.args.goal.base (node_term P.skeleton.nodes c.args.right.0)) c.in-NoValue.is c.in_ok-cell.ensures.side in
    valueless_runs P row c.evaluate.new.cells c.args.goal c.args.left.0 c.args.right.0 c.args.pair c.requires.item side

pub returns-in-Number-clause-ran : goal.returns-in-Number-clause-ran
returns-in-Number-clause-ran g c =
    let P = g.N.Naming.program in
    let row = c.args.cells.now in
    let goal = c.args.goal in
    let side = subst (IsSide P row goal.base (node_term P.skeleton.nodes c.args.right.0)) c.in-Number.is c.in_ok-cell.ensures.side in
    let first = subst (λ (Q : NamedProgram). c.pair_in-first-in-Number.result ≡ pair_of Q goal.clause.0 goal.base c.args.pair)
    (sym c.requires.program) c.pair_in-first-in-Number.ensures in
    let z = c.in-Number.value in
    let fits : FitsSigned w64 z = search (rules, ints) in
    IfOk-weaker c.assign_seldom.result
    (AssignsTo P c.evaluate.new.cells c.assign_seldom.new.cells goal.base c.args.left.0 c.pair_in-first-in-Number.result (to_z w64 (of_z w64 z)))
    (RunsTo P row c.assign_seldom.new.cells goal)
    (assignment_runs P row c.assign_seldom.new.cells goal c.args.left.0 c.args.right.0 c.args.pair c.requires.item c.evaluate.new.cells
    c.pair_in-first-in-Number.result (to_z w64 (of_z w64 z)) z c.evaluate.ensures.unchanged first (to_z-of_z w64 z fits) side)
    c.assign_seldom.ensures.assigned

pub returns-in-Waits-clause-noted : goal.returns-in-Waits-clause-noted
returns-in-Waits-clause-noted g c =
    unchanged_noted c.args.trail.now c.args.cells.now c.evaluate.new.cells c.evaluate.ensures.unchanged

pub returns-in-NoValue-clause-noted : goal.returns-in-NoValue-clause-noted
returns-in-NoValue-clause-noted g c =
    unchanged_noted c.args.trail.now c.args.cells.now c.evaluate.new.cells c.evaluate.ensures.unchanged

pub returns-in-Number-clause-noted : goal.returns-in-Number-clause-noted
returns-in-Number-clause-noted g c =
    on_ok_weaker c.assign_seldom.result
    (subst (λ row. KeepsNoted c.args.trail.now c.assign_seldom.new.trail row c.assign_seldom.new.cells) c.evaluate.ensures.unchanged)
    c.assign_seldom.ensures.noted

pub returns-in-Some-clause-sets : goal.returns-in-Some-clause-sets
returns-in-Some-clause-sets g c =
    let P = g.N.Naming.program in
    let goal = c.args.goal in
    let first = subst (λ (Q : NamedProgram). c.pair_in-first.result ≡ pair_of Q goal.clause.0 goal.base c.args.pair)
    (sym c.requires.program) c.pair_in-first.ensures in
    on_ok_weaker c.assign.result
    (λ s. number c.args.left.0 c.args.right.0 c.args.pair c.requires.item.node
    (subst (SetsNumber P c.args.cells.now c.assign.new.cells goal.base c.args.left.0) first s))
    c.assign.ensures.sets

pub returns-in-Waits-clause-sets : goal.returns-in-Waits-clause-sets
returns-in-Waits-clause-sets g c = nothing c.evaluate.ensures.unchanged

pub returns-in-NoValue-clause-sets : goal.returns-in-NoValue-clause-sets
returns-in-NoValue-clause-sets g c = nothing c.evaluate.ensures.unchanged

pub returns-in-Number-clause-sets : goal.returns-in-Number-clause-sets
returns-in-Number-clause-sets g c =
    let P = g.N.Naming.program in
    let goal = c.args.goal in
    let first = subst (λ (Q : NamedProgram). c.pair_in-first-in-Number.result ≡ pair_of Q goal.clause.0 goal.base c.args.pair)
    (sym c.requires.program) c.pair_in-first-in-Number.ensures in
    on_ok_weaker c.assign_seldom.result
    (λ s. number c.args.left.0 c.args.right.0 c.args.pair c.requires.item.node
    (subst (SetsNumber P c.args.cells.now c.assign_seldom.new.cells goal.base c.args.left.0) first
    (subst (λ row. SetsNumber P row c.assign_seldom.new.cells goal.base c.args.left.0 c.pair_in-first-in-Number.result)
    c.evaluate.ensures.unchanged s)))
    c.assign_seldom.ensures.sets
