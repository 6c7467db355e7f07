-- Copies that are taken back, from one branch that was forked to the one below it.
use Rattle.std.proofs.Common.{ℕ, ◌≡◌, List, length, take, refl, ap, sym, ◌∙◌, subst}
use Rattle.and_model.specs.declared.goal
use Rattle.and_model.specs.declared.reference.Ref.{Ref}
use Rattle.and_cells.specs.Ranges.{NamedProgram}
use Rattle.and_cells.specs.Rows.{IsSound, taken_back}
use Rattle.and_code.specs.Written.{all_written}
use Rattle.and_branch_parts.specs.Branches.{Held}
use Rattle.and_branch_parts.specs.Copies.{IsBackAt}
use Rattle.and_branch_parts.specs.Origins.{GoesBack}
use Rattle.and_branch_parts.proofs.KeptOrigins.{row_again, reductions_back}

module _ (first up old b : Held) (x : GoesBack first up) (at : IsBackAt up old) (is : b ≡ old) where
  -- Its row is that of the first branch,
  pub row_below : (cells : List ℕ) (words : ℕ) → cells ≡ up.trail.cells → length first.row ≡ words → taken_back b.row cells words ≡ first.row
  row_below cells words cells_are words_are =
      let same : b.row ≡ up.row = ap (λ (h : Held). h.row) is ∙ at.row in
      ap (λ (row : List Ref). taken_back row cells words) same ∙ row_again up up first refl x cells words cells_are words_are

  pub sound_below : (P : NamedProgram) (cells : List ℕ) (words : ℕ) → cells ≡ up.trail.cells → length first.row ≡ words → IsSound P first.row
      → IsSound P (taken_back b.row cells words)
  sound_below P cells words cells_are words_are sound =
      subst (λ (row : List Ref). IsSound P row) (sym (row_below cells words cells_are words_are)) sound

  -- and its reductions are.
  pub reductions_below : (rs : List goal.Reduction.Reduction) (count : ℕ) → all_written rs ≡ b.reductions → length first.reductions ≡ count
      → all_written (take count rs) ≡ first.reductions
  reductions_below rs count rs_are count_is =
      reductions_back up up first refl x rs count (rs_are ∙ ap (λ (h : Held). h.reductions) is ∙ at.reductions) count_is
