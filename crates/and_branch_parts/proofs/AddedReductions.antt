-- Reductions that are put behind others, and what they weigh.
use Rattle.std.proofs.Common.{ℕ, ◌≡◌, ◌+◌, List, [], ◌∷◌, ◌++◌, ap, sym, ◌∙◌, arith, append_assoc, suc}
use Rattle.std.proofs.Common.{add-one, drop, drop-cons, slice_get, Some}
use Rattle.std.proofs.lemmas.List.{map-append}
use Rattle.std.proofs.lemmas.List.Sums.{sum_by-append}
use Rattle.std.proofs.lemmas.Option.{slice_get_within, get_or_from_slice_get}
use Rattle.and_model.specs.Programs.{Program, clause_at, clause_weight}
use Rattle.and_model.specs.Reductions.{Reduction}
use Rattle.and_model.specs.declared.goal
use Rattle.and_code.specs.Written.{written, all_written}
use Rattle.and_branch_parts.specs.Weights.{weights_of}

pub weights_join : (P : Program) (rs qs : List Reduction) → weights_of P (rs ++ qs) ≡ weights_of P rs + weights_of P qs
weights_join P rs qs = sum_by-append (λ (r : Reduction). clause_weight (clause_at P r.clause)) rs qs

module _ (made : List goal.Reduction.Reduction) (n : ℕ) (r : goal.Reduction.Reduction) (is : slice_get made n ≡ Some r) where
  rest : drop n made ≡ r ∷ drop (n + 1) made
  rest =
      drop-cons made n r (slice_get_within made n r is)
      ∙ ap (λ (x : goal.Reduction.Reduction). x ∷ drop (suc n) made) (get_or_from_slice_get made n r r is)
      ∙ ap (λ (k : ℕ). r ∷ drop k made) (sym (add-one n))

  -- What is written down so far and what is still to come stay the same,
  pub one_added : (old new : List goal.Reduction.Reduction) (all : List Reduction) → new ≡ old ++ r ∷ []
      → all_written old ++ all_written (drop n made) ≡ all → all_written new ++ all_written (drop (n + 1) made) ≡ all
  one_added old new all e h =
      let tail : List Reduction = all_written (drop (n + 1) made) in
      ap (λ (l : List goal.Reduction.Reduction). all_written l ++ tail) e
      ∙ ap (λ (l : List Reduction). l ++ tail) (map-append written old (r ∷ []))
      ∙ append_assoc (all_written old) (written r ∷ []) tail
      ∙ ap (λ (l : List goal.Reduction.Reduction). all_written old ++ all_written l) (sym rest)
      ∙ h

  -- and so does what the tree weighs with what is still to come.
  pub one_weighed : (P : Program) (weight total : ℕ) → weight + weights_of P (all_written (drop n made)) ≡ total
      → (weight + clause_weight (clause_at P r.clause.0)) + weights_of P (all_written (drop (n + 1) made)) ≡ total
  one_weighed P weight total h =
      let first = ap (λ (l : List goal.Reduction.Reduction). weights_of P (all_written l)) rest in
      let apart = weights_join P (written r ∷ []) (all_written (drop (n + 1) made)) in
      omega arith
