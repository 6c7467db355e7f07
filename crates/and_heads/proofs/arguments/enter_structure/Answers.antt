use Rattle.std.proofs.Common.{length, refl, sym, subst}
use Rattle.and_model.specs.declared.reference.Ref.TheVariants.{Node}
use Rattle.and_cells.specs.Ranges.{IsInRange}
use Rattle.and_cells.specs.Rows.{plain}
use Rattle.and_cells.proofs.Chains.{reads_nothing}
use Rattle.and_heads.specs.Entering.{Meets}
use Rattle.and_heads.proofs.Comparing.{pair_of}
use Rattle.and_heads.proofs.arguments.enter_structure.Goals as goal

pub enter_from-requires-clause-in_range : goal.enter_from-requires-clause-in_range
enter_from-requires-clause-in_range g c =
    (subst (IsInRange g.N.Naming.program (length c.args.cells.now)) c.in-Cell.is c.requires.in_range.0, c.requires.in_range.1)

pub returns-in-Cell-clause-meets : goal.returns-in-Cell-clause-meets
returns-in-Cell-clause-meets g c =
    subst (λ r. Meets g.N.Naming.program (pair_of r (Node c.args.node c.args.base)) (plain c.args.cells.now) (plain c.enter_from.new.cells)
    c.args.parts.now.items c.enter_from.new.parts.items c.args.bound.now.items c.enter_from.new.bound.items c.enter_from.result)
    (sym c.in-Cell.is) c.enter_from.ensures.meets

pub compare_structures-requires-clause-in_range : goal.compare_structures-requires-clause-in_range
compare_structures-requires-clause-in_range g c =
    (subst (IsInRange g.N.Naming.program (length c.args.cells.now)) c.in-Node.is c.requires.in_range.0, c.requires.in_range.1)

pub returns-in-Node-clause-meets : goal.returns-in-Node-clause-meets
returns-in-Node-clause-meets g c =
    let bound = c.args.bound.now.items in
    subst (λ r. Meets g.N.Naming.program (pair_of r (Node c.args.node c.args.base)) (plain c.args.cells.now) (plain c.args.cells.now)
    c.args.parts.now.items c.compare_structures.new.parts.items bound bound c.compare_structures.result) (sym c.in-Node.is)
    (c.compare_structures.ensures bound)

pub returns-in_default-clause-meets : goal.returns-in_default-clause-meets
returns-in_default-clause-meets g c = (reads_nothing (plain c.args.cells.now), refl)
