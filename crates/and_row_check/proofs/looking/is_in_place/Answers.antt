use Rattle.std.proofs.Common.{◌≡◌, true, sym, subst}
use Rattle.and_cells.specs.Parts.{named}
use Rattle.and_model.specs.declared.reference.Ref.{Ref}
use Rattle.and_row_check.specs.Places.{NamesVariables}
use Rattle.and_row_check.proofs.Wholeness.{names_by_span}
use Rattle.and_row_check.proofs.looking.is_in_place.Goals as goal

pub returns-then-is_variable_cell-2-clause-in_place : goal.returns-then-is_variable_cell-2-clause-in_place
returns-then-is_variable_cell-2-clause-in_place c = λ yes free whole.
    let of_it : c.is_frame_of.result ≡ true = cc in (
      c.is_variable_cell-in-Node.ensures c.if-is_variable_cell-2.true,
      subst (λ (r : Ref). NamesVariables (named c.args.loaded.now) c.args.frames.now r) (sym c.in-Node.is)
          (names_by_span (named c.args.loaded.now) c.args.frames.now c.in-Node.node c.in-Node.base c.in_ok-span-in-Node.span
          c.in_ok-span-in-Node.ensures.below (c.is_frame_of.ensures of_it)),
    )
