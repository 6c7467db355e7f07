use Rattle.std.proofs.Common.{length, refl, sym, subst}
use Rattle.std.proofs.lemmas.Option.{IfSome_then}
use Rattle.and_cells.specs.Ranges.{IsInRange}
use Rattle.and_cells.specs.Rows.{plain}
use Rattle.and_value_laws.specs.Values.{HasValue}
use Rattle.and_arith.specs.declared.values.Valued.TheVariants.{Number}
use Rattle.and_arith.proofs.Telling.{told_value}
use Rattle.and_branch_laws.proofs.Loading.{resolved_is, falls_in}
use Rattle.and_branch_laws.proofs.Resolved.{part_in_range}
use Rattle.and_branch_laws.proofs.Valuing.{number_side}
use Rattle.and_guards.proofs.guards.number_at_once.Goals as goal

pub known_number-requires-clause-falls : goal.known_number-requires-clause-falls
known_number-requires-clause-falls g c =
    falls_in g.N.Naming.program c.args.loaded.now c.requires.program c.skeleton_is_of_the_program.ensures.skeleton.0

pub known_number-requires-clause-in_range : goal.known_number-requires-clause-in_range
known_number-requires-clause-in_range g c =
    let P = g.N.Naming.program in
    let fall = falls_in P c.args.loaded.now c.requires.program c.skeleton_is_of_the_program.ensures.skeleton.0 in
    let is = resolved_is P c.args.loaded.now c.args.node c.args.base c.resolve.result c.requires.program c.resolve.ensures in
    subst (IsInRange P (length c.args.cells.now)) (sym is)
    (part_in_range P (length c.args.cells.now) c.args.node.0 c.args.base fall c.requires.node.in_range)

pub returns : goal.returns
returns g c =
    let P = g.N.Naming.program in
    let row = c.args.cells.now in
    let fall = falls_in P c.args.loaded.now c.requires.program c.skeleton_is_of_the_program.ensures.skeleton.0 in
    let at = c.resolve.result in
    let is = resolved_is P c.args.loaded.now c.args.node c.args.base at c.requires.program c.resolve.ensures in
    IfSome_then c.known_number.result c.known_number.ensures
    (λ z known.
    number_side P fall row c.len-words.ensures.sound c.args.base c.args.node.0 c.requires.node c.requires.settled z
    (subst (λ r. HasValue P (plain row) r z) is (told_value P row at (Number z) z refl known)))
