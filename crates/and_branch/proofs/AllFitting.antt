-- Clauses of which each passes, one more behind the others.
use Rattle.std.proofs.Common.{ℕ, ◌+◌, ◌≡◌, Bool, true, List, [], ◌∷◌, ◌++◌, refl, ap, ◌∙◌, Some, None, take}
use Rattle.std.specs.Prelude.{filter, slice_get}
use Rattle.std.proofs.lemmas.List.{take_more}
use Rattle.std.proofs.lemmas.Option.{get_or_from_slice_get, slice_get_within}
use Rattle.and_model.specs.declared.numbers.ClauseNo.{ClauseNo}
use Rattle.and_branch_parts.specs.Forking.{first_other}
use Rattle.and_branch_parts.proofs.CandidatesParted.{fitting_more, heavy_more}

next_is : (cs : List ClauseNo) (i : ℕ) (c : ClauseNo) → slice_get cs i ≡ Some c → take (i + 1) cs ≡ take i cs ++ c ∷ []
next_is cs i c e = take_more cs i c (slice_get_within cs i c e)
    ∙ ap (λ (d : ClauseNo). take i cs ++ d ∷ []) (get_or_from_slice_get cs i c c e)

pub fitting_still : (p : ClauseNo → Bool) (cs : List ClauseNo) (i : ℕ) (c : ClauseNo) → slice_get cs i ≡ Some c → true ≡ p c
    → take i cs ≡ filter p (take i cs) → take (i + 1) cs ≡ filter p (take (i + 1) cs)
fitting_still p cs i c at e kept = fitting_more p cs i c (take i cs) (take (i + 1) cs) true at e kept (next_is cs i c at)

pub none_still : (p : ClauseNo → Bool) (cs : List ClauseNo) (i : ℕ) (c : ClauseNo) → slice_get cs i ≡ Some c → true ≡ p c
    → None ≡ first_other p (take i cs) → None ≡ first_other p (take (i + 1) cs)
none_still p cs i c at e kept = heavy_more p cs i c None None true at e kept refl
