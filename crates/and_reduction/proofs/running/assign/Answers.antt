use Rattle.std.proofs.Common.{◌+◌, arith, ℤ, w64, subst}
use Rattle.std.proofs.lemmas.Int.{to_z-of_z}
use Rattle.and_model.specs.declared.reference.Ref.TheVariants.{Number}
use Rattle.and_cells.specs.Parts.{part_at}
use Rattle.and_step_laws.specs.Running.{IsAskedFor}
use Rattle.and_branch_laws.specs.Settling.{IsWritten}
use Rattle.and_step_laws.proofs.Numbers.{still_reads}
use Rattle.and_step_laws.proofs.AskedNumbers.{number_new, number_assigned, number_refused}
use Rattle.and_reduction.specs.Asked.{the_pair}
use Rattle.and_reduction.proofs.NotedSteps.{assigning_noted}
use Rattle.and_reduction.proofs.running.assign.Goals as goal

pub overflow_add-pair : goal.overflow_add-pair
overflow_add-pair g c =
    let there = c.requires.goal.pair_is_free.in_range in
    let long = c.ask_number.ensures.written.long in
    let short = c.len-words.ensures.sound.short in
    omega (arith, there, long, short)

pub settle_number-requires-clause-node : goal.settle_number-requires-clause-node
settle_number-requires-clause-node g c =
    let P = g.N.Naming.program in
    let written = subst (IsWritten c.args.cells.now c.ask_number.new.cells c.args.pair) (to_z-of_z w64 c.args.value c.ranges.value)
    c.ask_number.ensures.written in
    still_reads P c.args.cells.now c.ask_number.new.cells c.args.pair c.args.value c.requires.goal.pair_is_free written c.args.base c.args.node.0
    c.requires.goal

pub settle_number-requires-clause-in_range : goal.settle_number-requires-clause-in_range
settle_number-requires-clause-in_range g c = c.ask_number.ensures.asked.ready.in_range

pub settle_number-requires-clause-written : goal.settle_number-requires-clause-written
settle_number-requires-clause-written g c = c.ask_number.ensures.asked.ready.written

pub settle_number-requires-clause-settled : goal.settle_number-requires-clause-settled
settle_number-requires-clause-settled g c = c.ask_number.ensures.settled

pub settle_number-requires-clause-no_half : goal.settle_number-requires-clause-no_half
settle_number-requires-clause-no_half g c = c.ask_number.ensures.asked.ready.whole

pub settle_number-requires-clause-new : goal.settle_number-requires-clause-new
settle_number-requires-clause-new g c =
    let P = g.N.Naming.program in
    let asked = subst (λ (z : ℤ). IsAskedFor P c.args.cells.now c.ask_number.new.cells c.args.base c.args.node.0 c.args.pair z
    (the_pair (part_at g.N.Naming.program c.args.base c.args.node.0) (Number c.args.pair))) (to_z-of_z w64 c.args.value c.ranges.value) c.ask_number.ensures in
    number_new P c.args.cells.now c.ask_number.new.cells c.args.base c.args.node.0 c.args.pair c.args.value
    (the_pair (part_at g.N.Naming.program c.args.base c.args.node.0) (Number c.args.pair)) asked
    c.len-words.result c.len-words.ensures.value

pub returns-in-Solved-clause-assigned : goal.returns-in-Solved-clause-assigned
returns-in-Solved-clause-assigned g c =
    let P = g.N.Naming.program in
    let asked = subst (λ (z : ℤ). IsAskedFor P c.args.cells.now c.ask_number.new.cells c.args.base c.args.node.0 c.args.pair z
    (the_pair (part_at g.N.Naming.program c.args.base c.args.node.0) (Number c.args.pair))) (to_z-of_z w64 c.args.value c.ranges.value) c.ask_number.ensures in
    number_assigned P c.args.cells.now c.ask_number.new.cells c.args.base c.args.node.0 c.args.pair c.args.value
    (the_pair (part_at g.N.Naming.program c.args.base c.args.node.0) (Number c.args.pair)) asked
    c.settle_number.new.cells c.len-words-in-Solved.ensures.sound c.in-Solved.ensures.settles

pub returns-in-NoSolution-clause-assigned : goal.returns-in-NoSolution-clause-assigned
returns-in-NoSolution-clause-assigned g c =
    let P = g.N.Naming.program in
    let asked = subst (λ (z : ℤ). IsAskedFor P c.args.cells.now c.ask_number.new.cells c.args.base c.args.node.0 c.args.pair z
    (the_pair (part_at g.N.Naming.program c.args.base c.args.node.0) (Number c.args.pair))) (to_z-of_z w64 c.args.value c.ranges.value) c.ask_number.ensures in
    number_refused P c.args.cells.now c.ask_number.new.cells c.args.base c.args.node.0 c.args.pair c.args.value
    (the_pair (part_at g.N.Naming.program c.args.base c.args.node.0) (Number c.args.pair)) asked
    c.settle_number.new.cells c.in-NoSolution.ensures.settles

pub returns-in-Solved-clause-noted : goal.returns-in-Solved-clause-noted
returns-in-Solved-clause-noted g c =
    let P = g.N.Naming.program in
    let asked = subst (λ (z : ℤ). IsAskedFor P c.args.cells.now c.ask_number.new.cells c.args.base c.args.node.0 c.args.pair z
    (the_pair (part_at g.N.Naming.program c.args.base c.args.node.0) (Number c.args.pair))) (to_z-of_z w64 c.args.value c.ranges.value) c.ask_number.ensures in
    assigning_noted P c.args.trail.now c.note.new.self c.settle_number.new.trail c.args.cells.now c.ask_number.new.cells
    c.settle_number.new.cells c.args.pair (c.args.pair + 1) c.args.value (omega arith) c.requires.goal.pair_is_free asked.written
    c.in_ok-note.ensures (c.in-Solved.ensures.noted (λ e. absurd (cc)))

pub returns-in-NoSolution-clause-noted : goal.returns-in-NoSolution-clause-noted
returns-in-NoSolution-clause-noted g c =
    let P = g.N.Naming.program in
    let asked = subst (λ (z : ℤ). IsAskedFor P c.args.cells.now c.ask_number.new.cells c.args.base c.args.node.0 c.args.pair z
    (the_pair (part_at g.N.Naming.program c.args.base c.args.node.0) (Number c.args.pair))) (to_z-of_z w64 c.args.value c.ranges.value) c.ask_number.ensures in
    assigning_noted P c.args.trail.now c.note.new.self c.settle_number.new.trail c.args.cells.now c.ask_number.new.cells
    c.settle_number.new.cells c.args.pair (c.args.pair + 1) c.args.value (omega arith) c.requires.goal.pair_is_free asked.written
    c.in_ok-note.ensures (c.in-NoSolution.ensures.noted (λ e. absurd (cc)))

pub returns-in-Solved-clause-sets : goal.returns-in-Solved-clause-sets
returns-in-Solved-clause-sets g c = record {
  z = _;
  written = c.ask_number.new.cells;
  is_written = c.ask_number.ensures.written;
  sets = c.settle_number.ensures.places;
}

pub returns-in-NoSolution-clause-sets : goal.returns-in-NoSolution-clause-sets
returns-in-NoSolution-clause-sets g c = record {
  z = _;
  written = c.ask_number.new.cells;
  is_written = c.ask_number.ensures.written;
  sets = c.settle_number.ensures.places;
}
