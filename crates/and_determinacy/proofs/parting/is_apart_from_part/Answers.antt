use Rattle.std.proofs.Common.{length, subst}
use Rattle.std.specs.Prelude.{IfSome}
use Rattle.and_model.specs.Terms.{Term}
use Rattle.and_program.specs.Skeletons.{node_term}
use Rattle.and_branch_laws.specs.Variables.{cells_from, placed}
use Rattle.and_determinacy.specs.Parting.{IsStructureAt, AreApart}
use Rattle.and_determinacy.specs.Seeing.{ref_term}
use Rattle.and_determinacy.proofs.Parted.{apart_back, led_apart, same_argument}
use Rattle.and_determinacy.proofs.SureRefs.{solid_node}
use Rattle.and_determinacy.proofs.parting.is_apart_from_part.Goals as goal

pub begins_apart-requires-clause-part : goal.begins_apart-requires-clause-part
begins_apart-requires-clause-part g c =
    let P = g.N.Naming.program in
    c.part_of.ensures.part P (length c.args.cells.now) c.requires.program c.requires.falls c.requires.in_range

pub begins_apart-requires-clause-solid : goal.begins_apart-requires-clause-solid
begins_apart-requires-clause-solid g c =
    let P = g.N.Naming.program in
    let row = c.args.cells.now in
    let at : IsStructureAt P row c.args.part c.in-Some.found.0 c.in-Some.found.1 =
    subst (λ o. IfSome o (λ found. IsStructureAt P row c.args.part found.0 found.1)) c.in-Some.is c.structure_at.ensures in
    solid_node P row (length row) c.in-Some.found.0 c.in-Some.found.1 at.in_range

pub returns-in-Some : goal.returns-in-Some
returns-in-Some g c = λ e t is.
    let P = g.N.Naming.program in
    let row = c.args.cells.now in
    let node = c.in-Some.found.0 in
    let base = c.in-Some.found.1 in
    let at : IsStructureAt P row c.args.part node base =
    subst (λ o. IfSome o (λ found. IsStructureAt P row c.args.part found.0 found.1)) c.in-Some.is c.structure_at.ensures in
    let second = c.part_of.result in
    let own : Term = placed base (node_term P.skeleton.nodes node.0) in
    let apart : AreApart P row (ref_term P second) own = c.begins_apart.ensures e (cells_from base) in
    subst (AreApart P row (ref_term P c.args.part))
    (same_argument (ref_term P second) t (placed c.args.base (node_term P.skeleton.nodes c.args.node.0)) c.args.place
    (c.part_of.ensures.argument P c.requires.program c.requires.falls) is)
    (led_apart P row c.args.part node base (ref_term P second) at (apart_back P row (ref_term P second) own apart))
