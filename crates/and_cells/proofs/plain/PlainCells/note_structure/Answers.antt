use Rattle.std.proofs.Common.{refl, sym, subst}
use Rattle.std.specs.Prelude.{All}
use Rattle.and_model.specs.declared.reference.Ref.TheVariants.{Node}
use Rattle.and_cells.specs.Ranges.{NamedProgram}
use Rattle.and_cells.specs.Parts.{parts_of}
use Rattle.and_cells.specs.Rows.{row_of}
use Rattle.and_cells.specs.Ground.{IsEndOrAmong}
use Rattle.and_cells.proofs.GroundParts.{founded_put}
use Rattle.and_cells.proofs.plain.PlainCells.note_structure.Goals as goal

pub invariant_of-self : goal.invariant_of-self
invariant_of-self g c =
    let P = g.N.Naming.program in
    let at = Node c.args.node c.args.base in
    let known = c.self.inside.known in
    let seen = subst (λ (Q : NamedProgram). All (IsEndOrAmong Q known) (parts_of Q at)) (sym c.requires.program) (c.if-not-parts_are_known.ensures refl) in
    (c.self.invariant.0, c.self.invariant.1, founded_put P (row_of c.self.inside.words.items) known c.put.new.self at c.put.ensures c.self.invariant.2 seen)
