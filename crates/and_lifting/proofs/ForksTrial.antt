-- ?- (X = 1 ; X = 2), (Y = 3 ; Y = X).
use Rattle.std.proofs.Common.{ℕ, zero, suc, ◌≡◌, ◌≤◌, List, [], ◌∷◌, refl, ◌∙◌, arith, codes}
use Rattle.std.specs.Fmt.{digits}
use Rattle.and_model.specs.Terms.{Path, variable, Substitution, apply}
use Rattle.and_model.specs.Solutions.{Equation, Solves, MostGeneral}
use Rattle.and_model.specs.Closure.{Closes}
use Rattle.and_model.specs.Listing.{answer, Entry}
use Rattle.and_source.specs.Source.{source_weight, alternative_weight}
use Rattle.and_source.specs.SourceListing.{SourceEnds, SourceLists, SourceListing, source_answered, source_calls, source_no_more, source_other, source_light}
use Rattle.and_source.specs.SourceListing.{source_query}
use Rattle.and_lifting.specs.Trials.{own, whole, entry, forks_text}
use Rattle.and_lifting.proofs.TrialSteps.{at}

-- X and Y are these two numbers.
abbrev both : ℕ → ℕ → Substitution
both n m [] zero = whole n
both n m [] (suc zero) = whole m
both n m [] (suc (suc k)) = variable [] (suc (suc k))
both n m (i ∷ r) k = variable (i ∷ r) k

-- X is n, and Y is 3 or X
abbrev apart : ℕ → List Equation
apart n = (own 1, whole 3) ∷ (own 0, whole n) ∷ []

abbrev shared : ℕ → List Equation
shared n = (own 1, own 0) ∷ (own 0, whole n) ∷ []

apart_general : (n : ℕ) → MostGeneral (both n 3) (apart n)
apart_general n = ((refl, (refl, tt)), through n)
  where
    through : (n : ℕ) (t : Substitution) → Solves t (apart n) → (r : Path) (k : ℕ) → t r k ≡ apply t (both n 3 r k)
    through n t h [] zero = h.1.0
    through n t h [] (suc zero) = h.0
    through n t h [] (suc (suc k)) = refl
    through n t h (i ∷ r) k = refl

shared_general : (n : ℕ) → MostGeneral (both n n) (shared n)
shared_general n = ((refl, (refl, tt)), through n)
  where
    through : (n : ℕ) (t : Substitution) → Solves t (shared n) → (r : Path) (k : ℕ) → t r k ≡ apply t (both n n r k)
    through n t h [] zero = h.1.0
    through n t h [] (suc zero) = h.0 ∙ h.1.0
    through n t h [] (suc (suc k)) = refl
    through n t h (i ∷ r) k = refl

ends_13 : SourceEnds forks_text (at forks_text (1 ∷ 3 ∷ [])) (answer (codes "X = 1, Y = 3"))
unfolding digits
ends_13 = (refl, apart 1, [], Closes.waiting (apart 1) [] tt, both 1 3, apart_general 1, refl)

ends_14 : SourceEnds forks_text (at forks_text (1 ∷ 4 ∷ [])) (answer (codes "X = 1, Y = 1"))
unfolding digits
ends_14 = (refl, shared 1, [], Closes.waiting (shared 1) [] tt, both 1 1, shared_general 1, refl)

ends_23 : SourceEnds forks_text (at forks_text (2 ∷ 3 ∷ [])) (answer (codes "X = 2, Y = 3"))
unfolding digits
ends_23 = (refl, apart 2, [], Closes.waiting (apart 2) [] tt, both 2 3, apart_general 2, refl)

ends_24 : SourceEnds forks_text (at forks_text (2 ∷ 4 ∷ [])) (answer (codes "X = 2, Y = 2"))
unfolding digits
ends_24 = (refl, shared 2, [], Closes.waiting (shared 2) [] tt, both 2 2, shared_general 2, refl)

abbrev e13 : Entry
e13 = entry (1 ∷ 3 ∷ []) (answer (codes "X = 1, Y = 3"))

abbrev e14 : Entry
e14 = entry (1 ∷ 4 ∷ []) (answer (codes "X = 1, Y = 1"))

abbrev e23 : Entry
e23 = entry (2 ∷ 3 ∷ []) (answer (codes "X = 2, Y = 3"))

abbrev e24 : Entry
e24 = entry (2 ∷ 4 ∷ []) (answer (codes "X = 2, Y = 2"))

by_one : (limit : ℕ) → 8 ≤ limit → SourceLists forks_text limit (1 ∷ []) (at forks_text (1 ∷ [])) (e13 ∷ e14 ∷ [])
unfolding source_weight alternative_weight
by_one limit above =
    source_calls (1 ∷ []) (at forks_text (1 ∷ [])) (e13 ∷ e14 ∷ []) (λ e. absurd (cc))
    (source_other (1 ∷ []) (at forks_text (1 ∷ [])) 1 (e13 ∷ e14 ∷ []) (omega arith) refl
    (source_other (1 ∷ []) (at forks_text (1 ∷ [])) 2 (e13 ∷ e14 ∷ []) (omega arith) refl
    (source_light (1 ∷ []) (at forks_text (1 ∷ [])) (at forks_text (1 ∷ 3 ∷ [])) 3 (e13 ∷ []) (e14 ∷ []) refl (omega arith)
    (source_answered (1 ∷ 3 ∷ []) (at forks_text (1 ∷ 3 ∷ [])) (answer (codes "X = 1, Y = 3")) ends_13)
    (source_light (1 ∷ []) (at forks_text (1 ∷ [])) (at forks_text (1 ∷ 4 ∷ [])) 4 (e14 ∷ []) [] refl (omega arith)
    (source_answered (1 ∷ 4 ∷ []) (at forks_text (1 ∷ 4 ∷ [])) (answer (codes "X = 1, Y = 1")) ends_14)
    (source_no_more (1 ∷ []) (at forks_text (1 ∷ [])) 5 (omega arith))))))

by_two : (limit : ℕ) → 8 ≤ limit → SourceLists forks_text limit (2 ∷ []) (at forks_text (2 ∷ [])) (e23 ∷ e24 ∷ [])
unfolding source_weight alternative_weight
by_two limit above =
    source_calls (2 ∷ []) (at forks_text (2 ∷ [])) (e23 ∷ e24 ∷ []) (λ e. absurd (cc))
    (source_other (2 ∷ []) (at forks_text (2 ∷ [])) 1 (e23 ∷ e24 ∷ []) (omega arith) refl
    (source_other (2 ∷ []) (at forks_text (2 ∷ [])) 2 (e23 ∷ e24 ∷ []) (omega arith) refl
    (source_light (2 ∷ []) (at forks_text (2 ∷ [])) (at forks_text (2 ∷ 3 ∷ [])) 3 (e23 ∷ []) (e24 ∷ []) refl (omega arith)
    (source_answered (2 ∷ 3 ∷ []) (at forks_text (2 ∷ 3 ∷ [])) (answer (codes "X = 2, Y = 3")) ends_23)
    (source_light (2 ∷ []) (at forks_text (2 ∷ [])) (at forks_text (2 ∷ 4 ∷ [])) 4 (e24 ∷ []) [] refl (omega arith)
    (source_answered (2 ∷ 4 ∷ []) (at forks_text (2 ∷ 4 ∷ [])) (answer (codes "X = 2, Y = 2")) ends_24)
    (source_no_more (2 ∷ []) (at forks_text (2 ∷ [])) 5 (omega arith))))))

pub listing : (limit : ℕ) → 8 ≤ limit → SourceListing forks_text limit (e13 ∷ e14 ∷ e23 ∷ e24 ∷ [])
unfolding source_weight alternative_weight
listing limit above =
    source_query (e13 ∷ e14 ∷ e23 ∷ e24 ∷ []) (omega arith)
    (source_calls [] (at forks_text []) (e13 ∷ e14 ∷ e23 ∷ e24 ∷ []) (λ e. absurd (cc))
    (source_light [] (at forks_text []) (at forks_text (1 ∷ [])) 1 (e13 ∷ e14 ∷ []) (e23 ∷ e24 ∷ []) refl (omega arith) (by_one limit above)
    (source_light [] (at forks_text []) (at forks_text (2 ∷ [])) 2 (e23 ∷ e24 ∷ []) [] refl (omega arith) (by_two limit above)
    (source_other [] (at forks_text []) 3 [] (omega arith) refl
    (source_other [] (at forks_text []) 4 [] (omega arith) refl
    (source_no_more [] (at forks_text []) 5 (omega arith)))))))
