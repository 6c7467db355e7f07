use Rattle.std.proofs.Common.{rules, Some, refl, sym, subst, w64}
use Rattle.std.specs.Prelude.{FitsSigned}
use Rattle.std.proofs.lemmas.Int.{ints, to_z-of_z}
use Rattle.and_cells.specs.Ranges.{IsInRange}
use Rattle.and_cells.specs.Seen.{IsWrittenIfNumber}
use Rattle.and_cells.specs.Parts.{part_at}
use Rattle.and_value_laws.specs.Values.{HasValue, LacksValue}
use Rattle.and_shared_determinacy.specs.Weighing.{Amounts}
use Rattle.and_guards.proofs.Resolved.{part_in_range, part_written, resolved_is, falls_in}
use Rattle.and_shared_determinacy.proofs.Amounting.{number_amounts, none_amounts}
use Rattle.and_shared_determinacy.proofs.Weighed.{found_side, side_told}
use Rattle.and_shared_determinacy.proofs.weighing.find.Goals as goal

pub value-requires-clause-in_range : goal.value-requires-clause-in_range
value-requires-clause-in_range g c =
    let P = g.C.Cells.program in
    let words = (g.C.Cells.seen c.args.cells.now).words in
    let fall = falls_in P c.args.loaded.now c.requires.program c.skeleton_is_of_the_program.ensures.skeleton.0 in
    let is = resolved_is P c.args.loaded.now c.args.node c.args.base c.resolve.result c.requires.program c.resolve.ensures in
    subst (IsInRange P words) (sym is) (part_in_range P words c.args.node.0 c.args.base fall c.requires.node)

pub value-requires-clause-written : goal.value-requires-clause-written
value-requires-clause-written g c =
    let P = g.C.Cells.program in
    let s = g.C.Cells.seen c.args.cells.now in
    let is = resolved_is P c.args.loaded.now c.args.node c.args.base c.resolve.result c.requires.program c.resolve.ensures in
    subst (IsWrittenIfNumber s) (sym is) (part_written P s c.args.base c.args.node.0)

pub returns-in-Number-clause-side : goal.returns-in-Number-clause-side
returns-in-Number-clause-side g c = λ side e.
    let P = g.C.Cells.program in
    let new = g.C.Cells.seen c.value.new.cells in
    let z = c.in-Number.number in
    let fall = falls_in P c.args.loaded.now c.requires.program c.skeleton_is_of_the_program.ensures.skeleton.0 in
    let is = resolved_is P c.args.loaded.now c.args.node c.args.base c.resolve.result c.requires.program c.resolve.ensures in
    let r = part_at P c.args.base c.args.node.0 in
    let found = number_amounts P fall new r z (subst (λ x. HasValue P new x z) is (c.in-Number.ensures.number z refl)) in
    let fits : FitsSigned w64 z = search (rules, ints) in
    side_told P new r _ side (found_side _ side e) (subst (λ y. Amounts P new r (Some y)) (sym (to_z-of_z w64 z fits)) found)

pub returns-in-NoValue-clause-side : goal.returns-in-NoValue-clause-side
returns-in-NoValue-clause-side g c = λ side e.
    let P = g.C.Cells.program in
    let new = g.C.Cells.seen c.value.new.cells in
    let fall = falls_in P c.args.loaded.now c.requires.program c.skeleton_is_of_the_program.ensures.skeleton.0 in
    let is = resolved_is P c.args.loaded.now c.args.node c.args.base c.resolve.result c.requires.program c.resolve.ensures in
    let r = part_at P c.args.base c.args.node.0 in
    side_told P new r _ side (found_side _ side e)
    (none_amounts P fall new c.args.base c.args.node.0 (subst (LacksValue P new) is (c.in-NoValue.ensures.no_value refl)))

pub returns-in-Waits-clause-side : goal.returns-in-Waits-clause-side
returns-in-Waits-clause-side g c = λ side e.
    let P = g.C.Cells.program in
    side_told P (g.C.Cells.seen c.value.new.cells) (part_at P c.args.base c.args.node.0) _ side (found_side _ side e) tt
