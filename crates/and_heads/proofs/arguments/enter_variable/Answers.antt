use Rattle.std.proofs.Common.{length, refl, sym, subst}
use Rattle.and_model.specs.declared.reference.Ref.TheVariants.{Cell}
use Rattle.and_cells.specs.Ranges.{IsInRange}
use Rattle.and_cells.specs.Rows.{plain}
use Rattle.and_cells.proofs.Chains.{reads_nothing}
use Rattle.and_heads.specs.Entering.{Meets}
use Rattle.and_heads.proofs.Comparing.{pair_of}
use Rattle.and_heads.proofs.arguments.enter_variable.Goals as goal

pub join-requires-clause-in_range : goal.join-requires-clause-in_range
join-requires-clause-in_range g c =
    (subst (IsInRange g.N.Naming.program (length c.args.cells.now)) c.in-Cell.is c.requires.in_range.0, c.requires.in_range.1)

pub returns-in-Cell-clause-meets : goal.returns-in-Cell-clause-meets
returns-in-Cell-clause-meets g c =
    subst (λ r. Meets g.N.Naming.program (pair_of r (Cell c.args.cell)) (plain c.args.cells.now) (plain c.join.new.cells) c.args.parts.now.items
    c.join.new.parts.items c.args.bound.now.items c.join.new.bound.items c.join.result) (sym c.in-Cell.is) c.join.ensures.meets

pub fill-requires-clause-in_range : goal.fill-requires-clause-in_range
fill-requires-clause-in_range g c =
    (subst (IsInRange g.N.Naming.program (length c.args.cells.now)) c.in-Node.is c.requires.in_range.0, c.requires.in_range.1)

pub returns-in-Node-clause-meets : goal.returns-in-Node-clause-meets
returns-in-Node-clause-meets g c =
    subst (λ r. Meets g.N.Naming.program (pair_of r (Cell c.args.cell)) (plain c.args.cells.now) (plain c.fill.new.cells) c.args.parts.now.items
    c.fill.new.parts.items c.args.bound.now.items c.fill.new.bound.items c.fill.result) (sym c.in-Node.is) c.fill.ensures.meets

pub returns-in_default-clause-meets : goal.returns-in_default-clause-meets
returns-in_default-clause-meets g c = (reads_nothing (plain c.args.cells.now), refl)
