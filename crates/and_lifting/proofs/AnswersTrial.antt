-- ?- X = 1 ; X = 2.
use Rattle.std.proofs.Common.{ℕ, zero, suc, ◌≡◌, ◌≤◌, List, [], ◌∷◌, refl, arith, codes}
use Rattle.std.specs.Fmt.{digits}
use Rattle.and_model.specs.Terms.{Path, variable, Substitution, apply}
use Rattle.and_model.specs.Solutions.{Equation, Solves, MostGeneral}
use Rattle.and_model.specs.Programs.{clause_at, clause_weight}
use Rattle.and_model.specs.Closure.{Closes}
use Rattle.and_model.specs.Listing.{answer, Entry}
use Rattle.and_source.specs.Source.{source_weight, alternative_weight}
use Rattle.and_source.specs.Lifted.{lift}
use Rattle.and_source.specs.SourceListing.{SourceEnds, SourceListing, source_answered, source_calls, source_no_more, source_heavy, source_light, source_query}
use Rattle.and_lifting.specs.Trials.{own, whole, entry, answers_text}
use Rattle.and_lifting.proofs.TrialSteps.{at}

pub weights : (source_weight answers_text.query ≡ 2) × (clause_weight (clause_at (lift answers_text) 1) ≡ 2)
unfolding source_weight clause_weight
weights = (refl, refl)

abbrev x_is : ℕ → Substitution
x_is n [] zero = whole n
x_is n [] (suc k) = variable [] (suc k)
x_is n (i ∷ r) k = variable (i ∷ r) k

abbrev asked : ℕ → List Equation
asked n = (own 0, whole n) ∷ []

general : (n : ℕ) → MostGeneral (x_is n) (asked n)
general n = ((refl, tt), through n)
  where
    through : (n : ℕ) (t : Substitution) → Solves t (asked n) → (r : Path) (k : ℕ) → t r k ≡ apply t (x_is n r k)
    through n t h [] zero = h.0
    through n t h [] (suc k) = refl
    through n t h (i ∷ r) k = refl

first_ends : SourceEnds answers_text (at answers_text (1 ∷ [])) (answer (codes "X = 1"))
unfolding digits
first_ends = (refl, asked 1, [], Closes.waiting (asked 1) [] tt, x_is 1, general 1, refl)

second_ends : SourceEnds answers_text (at answers_text (2 ∷ [])) (answer (codes "X = 2"))
unfolding digits
second_ends = (refl, asked 2, [], Closes.waiting (asked 2) [] tt, x_is 2, general 2, refl)

abbrev one : Entry
one = entry (1 ∷ []) (answer (codes "X = 1"))

abbrev two : Entry
two = entry (2 ∷ []) (answer (codes "X = 2"))

pub listing : (limit : ℕ) → 4 ≤ limit → SourceListing answers_text limit (one ∷ two ∷ [])
unfolding source_weight alternative_weight
listing limit above =
    source_query (one ∷ two ∷ []) (omega arith)
    (source_calls [] (at answers_text []) (one ∷ two ∷ []) (λ e. absurd (cc))
    (source_light [] (at answers_text []) (at answers_text (1 ∷ [])) 1 (one ∷ []) (two ∷ []) refl (omega arith)
    (source_answered (1 ∷ []) (at answers_text (1 ∷ [])) (answer (codes "X = 1")) first_ends)
    (source_light [] (at answers_text []) (at answers_text (2 ∷ [])) 2 (two ∷ []) [] refl (omega arith)
    (source_answered (2 ∷ []) (at answers_text (2 ∷ [])) (answer (codes "X = 2")) second_ends)
    (source_no_more [] (at answers_text []) 3 (omega arith)))))

pub within_three : SourceListing answers_text 3 []
unfolding source_weight alternative_weight
within_three =
    source_query [] (omega arith)
    (source_calls [] (at answers_text []) [] (λ e. absurd (cc))
    (source_heavy [] (at answers_text []) (at answers_text (1 ∷ [])) 1 [] refl (omega arith)
    (source_heavy [] (at answers_text []) (at answers_text (2 ∷ [])) 2 [] refl (omega arith)
    (source_no_more [] (at answers_text []) 3 (omega arith)))))
