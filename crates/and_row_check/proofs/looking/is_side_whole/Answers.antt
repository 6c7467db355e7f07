use Rattle.std.proofs.Common.{◌≡◌, true, sym, subst}
use Rattle.and_cells.specs.Parts.{named}
use Rattle.and_model.specs.declared.reference.Ref.{Ref}
use Rattle.and_row_check.specs.Places.{NamesVariables}
use Rattle.and_row_check.proofs.Wholeness.{names_by_span}
use Rattle.and_row_check.proofs.looking.is_side_whole.Goals as goal

pub returns-then-base-span-clause-names : goal.returns-then-base-span-clause-names
returns-then-base-span-clause-names c = λ yes.
    let of_it : c.is_frame_of.result ≡ true = cc in
    subst (λ (r : Ref). NamesVariables (named c.args.loaded.now) c.args.frames.now r) (sym c.in-Node.is)
    (names_by_span (named c.args.loaded.now) c.args.frames.now c.in-Node.node c.in-Node.base c.in_ok-span-in-Node.span
    c.in_ok-span-in-Node.ensures.below (c.is_frame_of.ensures of_it))
