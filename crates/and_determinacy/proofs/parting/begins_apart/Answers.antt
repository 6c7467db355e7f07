use Rattle.std.proofs.Common.{◌≢◌, length, sym, subst}
use Rattle.and_program.specs.Loaded.{shape_at}
use Rattle.and_program.specs.Shown.{shown}
use Rattle.and_cells.specs.Ranges.{NamedProgram}
use Rattle.and_program.specs.Skeletons.{node_term}
use Rattle.and_model.specs.Terms.{apply}
use Rattle.and_branch_laws.specs.Variables.{cells_from}
use Rattle.std.specs.Prelude.{IfSome}
use Rattle.and_determinacy.specs.Parting.{IsStructureAt}
use Rattle.and_determinacy.proofs.Parted.{kinds_apart, led_apart}
use Rattle.and_determinacy.proofs.SureRefs.{solid_node}
use Rattle.and_determinacy.proofs.parting.begins_apart.Goals as goal

pub returns-in-Some : goal.returns-in-Some
returns-in-Some g c = λ e a.
    let P = g.N.Naming.program in
    let row = c.args.cells.now in
    let node = c.in-Some.found.0 in
    let base = c.in-Some.found.1 in
    let other = c.args.node.0 in
    let at : IsStructureAt P row c.args.part node base =
    subst (λ o. IfSome o (λ found. IsStructureAt P row c.args.part found.0 found.1)) c.in-Some.is c.structure_at.ensures in
    let differ = subst (λ (Q : NamedProgram). shown (shape_at Q.skeleton node.0) ≢ shown (shape_at Q.skeleton other)) (sym c.requires.program)
    (c.kinds_differ.ensures.differ e) in
    led_apart P row c.args.part node base (apply a (node_term P.skeleton.nodes other)) at
    (λ s solves. kinds_apart P c.requires.falls node.0 other differ (solid_node P row (length row) node base at.in_range) c.requires.solid
    (cells_from base) a s)
