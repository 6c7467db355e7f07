-- m(X,Y,M) :- ( X >= Y, M = X ; X < Y, M = Y ). ?- m(3,5,M).
use Rattle.std.proofs.Common.{ℕ, zero, suc, ◌≡◌, ◌≤◌, List, [], ◌∷◌, refl, arith, codes}
use Rattle.std.specs.Fmt.{digits}
use Rattle.and_model.specs.Terms.{Path, Term, Terms, variable, none, more, Substitution, apply}
use Rattle.and_model.specs.Solutions.{Equation, Solves, MostGeneral, falsehood}
use Rattle.and_model.specs.Arithmetic.{holds, less, at_least}
use Rattle.and_model.specs.Programs.{Arithmetic, compare}
use Rattle.and_model.specs.Closure.{Closes, first}
use Rattle.and_model.specs.Listing.{answer, Entry}
use Rattle.and_laws.proofs.Closing.{closes_anyhow, closure_order}
use Rattle.and_source.specs.Source.{source_weight, alternative_weight}
use Rattle.and_source.specs.SourceListing.{SourceEnds, HasSourceOutcome, SourceLists, SourceListing, source_answered, source_nothing, source_calls}
use Rattle.and_source.specs.SourceListing.{source_no_more, source_other, source_light, source_query}
use Rattle.and_lifting.specs.Trials.{own, whole, entry, largest, guards_text, SourceCodeEnds}
use Rattle.and_lifting.proofs.TrialSteps.{at}

-- a variable of the clause that takes the query's call
abbrev inner : ℕ → Term
inner k = variable (0 ∷ []) k

abbrev with_last : ℕ → List Equation
with_last k = (inner 2, inner k) ∷ (largest (whole 3) (whole 5) (own 0), largest (inner 0) (inner 1) (inner 2)) ∷ []

-- M is 5, and so are the clause's variables but the first.
abbrev m_is_five : Substitution
m_is_five [] zero = whole 5
m_is_five [] (suc k) = variable [] (suc k)
m_is_five (zero ∷ []) zero = whole 3
m_is_five (zero ∷ []) (suc zero) = whole 5
m_is_five (zero ∷ []) (suc (suc zero)) = whole 5
m_is_five (zero ∷ []) (suc (suc (suc k))) = inner (suc (suc (suc k)))
m_is_five (zero ∷ i ∷ r) k = variable (zero ∷ i ∷ r) k
m_is_five (suc i ∷ r) k = variable (suc i ∷ r) k

general : MostGeneral m_is_five (with_last 1)
general = ((refl, (refl, tt)), through)
  where
    through : (t : Substitution) → Solves t (with_last 1) → (r : Path) (k : ℕ) → t r k ≡ apply t (m_is_five r k)
    through t h [] zero = let e = h.0 in let f = h.1.0 in cc
    through t h [] (suc k) = refl
    through t h (zero ∷ []) zero = let f = h.1.0 in cc
    through t h (zero ∷ []) (suc zero) = let f = h.1.0 in cc
    through t h (zero ∷ []) (suc (suc zero)) = let e = h.0 in let f = h.1.0 in cc
    through t h (zero ∷ []) (suc (suc (suc k))) = refl
    through t h (zero ∷ i ∷ r) k = refl
    through t h (suc i ∷ r) k = refl

-- Both sides of the comparison are known.
abbrev three_five : Terms
three_five = more (whole 3) (more (whole 5) none)

sides : (k : ℕ) (s : Substitution) → Solves s (with_last k) → more (s (0 ∷ []) 0) (more (s (0 ∷ []) 1) none) ≡ three_five
sides k s h = let f = h.1.0 in cc

-- 3 < 5 holds, and 3 >= 5 does not.
below : Closes (with_last 1) (compare less (inner 0) (inner 1) ∷ []) (with_last 1) []
unfolding holds
below = Closes.run (with_last 1) (compare less (inner 0) (inner 1) ∷ []) (compare less (inner 0) (inner 1)) [] three_five (with_last 1) []
    (m_is_five, general.0)
    (first (compare less (inner 0) (inner 1)) []) (refl, sides 1) (Closes.waiting (with_last 1) [] tt)

-- M is 3.
abbrev m_is_three : Substitution
m_is_three [] k = whole 3
m_is_three (i ∷ r) zero = whole 3
m_is_three (i ∷ r) (suc zero) = whole 5
m_is_three (i ∷ r) (suc (suc k)) = whole 3

above : Closes (with_last 0) (compare at_least (inner 0) (inner 1) ∷ []) (falsehood ∷ with_last 0) []
unfolding holds
above = Closes.run (with_last 0) (compare at_least (inner 0) (inner 1) ∷ []) (compare at_least (inner 0) (inner 1)) [] three_five (falsehood ∷ with_last 0)
    [] (m_is_three, (refl, (refl, tt)))
    (first (compare at_least (inner 0) (inner 1)) []) (refl, sides 0) (Closes.waiting (falsehood ∷ with_last 0) [] tt)

second_ends : SourceEnds guards_text (at guards_text (1 ∷ 3 ∷ [])) (answer (codes "M = 5"))
unfolding digits
second_ends = (refl, with_last 1, [], below, m_is_five, general, refl)

pub ends : SourceCodeEnds guards_text (1 ∷ 3 ∷ []) (answer (codes "M = 5"))
ends = (at guards_text (1 ∷ 3 ∷ []), refl, second_ends)

first_has_none : HasSourceOutcome (at guards_text (1 ∷ 2 ∷ [])) → ⊥
first_has_none out =
    let (es, gs, whole_is, closes, so) = out in
    let goals : List Arithmetic = compare at_least (inner 0) (inner 1) ∷ [] in
    let order = closure_order (with_last 0) goals es gs (falsehood ∷ with_last 0) [] (closes_anyhow (with_last 0) goals es gs closes)
    (closes_anyhow (with_last 0) goals (falsehood ∷ with_last 0) [] above) in
    let wrong = (order.0 so.0 so.1).0 in absurd (cc)

abbrev five : Entry
five = entry (1 ∷ 3 ∷ []) (answer (codes "M = 5"))

inside : (limit : ℕ) → 10 ≤ limit → SourceLists guards_text limit (1 ∷ []) (at guards_text (1 ∷ [])) (five ∷ [])
unfolding source_weight alternative_weight
inside limit high =
    source_calls (1 ∷ []) (at guards_text (1 ∷ [])) (five ∷ []) (λ e. absurd (cc))
    (source_other (1 ∷ []) (at guards_text (1 ∷ [])) 1 (five ∷ []) (omega arith) refl
    (source_light (1 ∷ []) (at guards_text (1 ∷ [])) (at guards_text (1 ∷ 2 ∷ [])) 2 [] (five ∷ []) refl (omega arith)
    (source_nothing (1 ∷ 2 ∷ []) (at guards_text (1 ∷ 2 ∷ [])) refl first_has_none)
    (source_light (1 ∷ []) (at guards_text (1 ∷ [])) (at guards_text (1 ∷ 3 ∷ [])) 3 (five ∷ []) [] refl (omega arith)
    (source_answered (1 ∷ 3 ∷ []) (at guards_text (1 ∷ 3 ∷ [])) (answer (codes "M = 5")) second_ends)
    (source_no_more (1 ∷ []) (at guards_text (1 ∷ [])) 4 (omega arith)))))

pub listing : (limit : ℕ) → 10 ≤ limit → SourceListing guards_text limit (five ∷ [])
unfolding source_weight alternative_weight
listing limit high =
    source_query (five ∷ []) (omega arith)
    (source_calls [] (at guards_text []) (five ∷ []) (λ e. absurd (cc))
    (source_light [] (at guards_text []) (at guards_text (1 ∷ [])) 1 (five ∷ []) [] refl (omega arith) (inside limit high)
    (source_other [] (at guards_text []) 2 [] (omega arith) refl
    (source_other [] (at guards_text []) 3 [] (omega arith) refl
    (source_no_more [] (at guards_text []) 4 (omega arith))))))
