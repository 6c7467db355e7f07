use Rattle.std.proofs.Common.{◌≡◌, ◌≢◌, ◌<◌, length, sym, subst, arith}
use Rattle.and_program.specs.Loaded.{shape_at, arguments_at, skeleton_of}
use Rattle.and_program.specs.Shown.{shown}
use Rattle.and_program.specs.Skeletons.{node_term}
use Rattle.and_cells.specs.Ranges.{NamedProgram}
use Rattle.and_branch_laws.specs.Variables.{cells_from, placed}
use Rattle.and_determinacy.specs.Seeing.{ref_term}
use Rattle.and_determinacy.proofs.Parted.{apart_by_argument, argument_itself, kinds_apart, shown_counts}
use Rattle.and_determinacy.proofs.SureRefs.{solid_node}
use Rattle.and_determinacy.proofs.parting.structures_are_apart.Goals as goal

pub returns-then-kinds_differ : goal.returns-then-kinds_differ
returns-then-kinds_differ g c = λ e s solves same.
    let P = g.N.Naming.program in
    let row = c.args.cells.now in
    let words = length row in
    let node = c.args.node in
    let other = c.args.other in
    let differ = subst (λ (Q : NamedProgram). shown (shape_at Q.skeleton node.0) ≢ shown (shape_at Q.skeleton other.0)) (sym c.requires.program)
    (c.kinds_differ.ensures.differ c.if-kinds_differ.true) in
    kinds_apart P c.requires.falls node.0 other.0 differ (solid_node P row words node c.args.base c.requires.in_range)
    (solid_node P row words other c.args.place_of_other c.requires.other) (cells_from c.args.base) (cells_from c.args.place_of_other) s same

pub is_apart_from_part-requires-clause-part : goal.is_apart_from_part-requires-clause-part
is_apart_from_part-requires-clause-part g c =
    c.part_of-part.ensures.part g.N.Naming.program (length c.args.cells.now) c.requires.program c.requires.falls c.requires.in_range

pub is_apart_from_part-requires-clause-place : goal.is_apart_from_part-requires-clause-place
is_apart_from_part-requires-clause-place g c =
    let S = skeleton_of c.args.loaded.now in
    let counts : length (arguments_at S c.args.node.0) ≡ length (arguments_at S c.args.other.0) =
    shown_counts (shape_at S c.args.node.0) (shape_at S c.args.other.0) (c.kinds_differ.ensures.alike c.if-kinds_differ.false) in
    omega (arith, counts)

pub returns-then-is_apart_from_part : goal.returns-then-is_apart_from_part
returns-then-is_apart_from_part g c = λ e.
    let P = g.N.Naming.program in
    let row = c.args.cells.now in
    let S = skeleton_of c.args.loaded.now in
    let node = c.args.node in
    let other = c.args.other in
    let place = c.loop-place.place in
    let counts : length (arguments_at S node.0) ≡ length (arguments_at S other.0) =
    shown_counts (shape_at S node.0) (shape_at S other.0) (c.kinds_differ.ensures.alike c.if-kinds_differ.false) in
    let there : place < length (arguments_at S other.0) = omega (arith, counts) in
    let first = c.part_of-part.ensures.argument P c.requires.program c.requires.falls in
    let second = argument_itself P c.requires.falls c.args.loaded.now c.requires.program other.0 place (cells_from c.args.place_of_other) there in
    apart_by_argument P row (ref_term P c.part_of-part.result) second.0 (placed c.args.base (node_term P.skeleton.nodes node.0))
    (placed c.args.place_of_other (node_term P.skeleton.nodes other.0)) place first second.1
    (c.is_apart_from_part.ensures c.if-is_apart_from_part.true second.0 second.1)
