use Rattle.std.proofs.Common.{List, refl, sym, ap, subst, ◌∙◌}
use Rattle.and_model.specs.declared.reference.Ref.{Ref}
use Rattle.and_model.specs.declared.reference.Ref.TheVariants.{Cell}
use Rattle.and_cells.specs.Ranges.{NamedProgram}
use Rattle.and_cells.specs.Seen.{word_at}
use Rattle.and_cells.specs.Rows.{row_of}
use Rattle.and_cells.specs.Ground.{IsEndOrAmong}
use Rattle.and_cells.proofs.GroundParts.{founded_put}
use Rattle.and_cells.proofs.plain.PlainCells.note_cell.Goals as goal

pub invariant_of-self : goal.invariant_of-self
invariant_of-self g c =
    let P = g.N.Naming.program in
    let row = row_of c.self.inside.words.items in
    let known = c.self.inside.known in
    let seen = subst (λ (Q : NamedProgram). IsEndOrAmong Q known c.word-word.result) (sym c.requires.program) (c.if-not-is_end_or_known.ensures refl) in (
      c.self.invariant.0,
      c.self.invariant.1,
      founded_put P row known c.put.new.self (Cell c.args.cell) c.put.ensures c.self.invariant.2
          (subst (IsEndOrAmong P known) (c.word-word.ensures.value ∙ ap (λ (rs : List Ref). word_at rs c.args.cell) (sym c.self.view_is)) seen),
    )
