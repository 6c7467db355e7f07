-- Example two-forks: p(1). p(2). q(3). q(4). ?- p(X), q(Y).
use Rattle.std.proofs.Common.{ℕ, zero, suc, ◌≡◌, ◌≤◌, List, [], ◌∷◌, refl, inl, arith, None, codes}
use Rattle.std.specs.Fmt.{digits}
use Rattle.and_model.specs.Terms.{Path, variable, Substitution, apply}
use Rattle.and_model.specs.Solutions.{Equation, Solves, MostGeneral}
use Rattle.and_model.specs.Programs.{clause_weight}
use Rattle.and_model.specs.Closure.{Closes}
use Rattle.and_model.specs.Trees.{QueryTree, query_agenda, blank, done, left, by, unfold_code}
use Rattle.and_model.specs.Listing.{Ends, answer, Entry, Lists, Listing, Exhausted, answered, calls, no_more, other, light, of_query}
use Rattle.and_examples.specs.Ending.{entry}
use Rattle.and_examples.specs.Texts.{own, whole, p, q, forks_text}
use Rattle.and_examples.proofs.Exhausting.{settled}

-- the clause 3 takes no p(X), and 1 takes no q(Y), and two calls are taken by two clauses
pub no_tree : (unfold_code forks_text (3 ∷ []) ≡ None) × (unfold_code forks_text (1 ∷ 1 ∷ []) ≡ None) × (unfold_code forks_text (1 ∷ 3 ∷ 3 ∷ []) ≡ None)
no_tree = (refl, refl, refl)

-- X and Y are these two numbers.
abbrev both : ℕ → ℕ → Substitution
both n m [] zero = whole n
both n m [] (suc zero) = whole m
both n m [] (suc (suc k)) = variable [] (suc (suc k))
both n m (i ∷ r) k = variable (i ∷ r) k

abbrev two : ℕ → ℕ → List Equation
two n m = (p (own 0), p (whole n)) ∷ (q (own 1), q (whole m)) ∷ []

general : (n m : ℕ) → MostGeneral (both n m) (two n m)
general n m = ((refl, (refl, tt)), through n m)
  where
    through : (n m : ℕ) (t : Substitution) → Solves t (two n m) → (r : Path) (k : ℕ) → t r k ≡ apply t (both n m r k)
    through n m t h [] zero = let e = h.0 in cc
    through n m t h [] (suc zero) = let e = h.1.0 in cc
    through n m t h [] (suc (suc k)) = refl
    through n m t h (i ∷ r) k = refl

abbrev start : QueryTree forks_text
start = blank (query_agenda forks_text)

abbrev one : QueryTree forks_text
one = by 1 refl (left done)

abbrev other_one : QueryTree forks_text
other_one = by 2 refl (left done)

abbrev one_three : QueryTree forks_text
one_three = by 1 refl (by 3 refl done)

abbrev one_four : QueryTree forks_text
one_four = by 1 refl (by 4 refl done)

abbrev two_three : QueryTree forks_text
two_three = by 2 refl (by 3 refl done)

abbrev two_four : QueryTree forks_text
two_four = by 2 refl (by 4 refl done)

ends_13 : Ends one_three (answer (codes "X = 1, Y = 3"))
unfolding digits
ends_13 = (tt, two 1 3, [], Closes.waiting (two 1 3) [] tt, both 1 3, general 1 3, refl)

ends_14 : Ends one_four (answer (codes "X = 1, Y = 4"))
unfolding digits
ends_14 = (tt, two 1 4, [], Closes.waiting (two 1 4) [] tt, both 1 4, general 1 4, refl)

ends_23 : Ends two_three (answer (codes "X = 2, Y = 3"))
unfolding digits
ends_23 = (tt, two 2 3, [], Closes.waiting (two 2 3) [] tt, both 2 3, general 2 3, refl)

ends_24 : Ends two_four (answer (codes "X = 2, Y = 4"))
unfolding digits
ends_24 = (tt, two 2 4, [], Closes.waiting (two 2 4) [] tt, both 2 4, general 2 4, refl)

abbrev pub e13 : Entry
e13 = entry (1 ∷ 3 ∷ []) (answer (codes "X = 1, Y = 3"))

abbrev pub e14 : Entry
e14 = entry (1 ∷ 4 ∷ []) (answer (codes "X = 1, Y = 4"))

abbrev pub e23 : Entry
e23 = entry (2 ∷ 3 ∷ []) (answer (codes "X = 2, Y = 3"))

abbrev pub e24 : Entry
e24 = entry (2 ∷ 4 ∷ []) (answer (codes "X = 2, Y = 4"))

-- the query weighs 3, and each fact 1
by_one : (limit : ℕ) → 5 ≤ limit → Lists forks_text limit one (e13 ∷ e14 ∷ [])
unfolding clause_weight
by_one limit above =
    calls one (inl tt) (e13 ∷ e14 ∷ []) tt
    (other one (inl tt) 1 (e13 ∷ e14 ∷ []) (omega arith) refl
    (other one (inl tt) 2 (e13 ∷ e14 ∷ []) (omega arith) refl
    (light one (inl tt) 3 (e13 ∷ []) (e14 ∷ []) refl (omega arith) (answered one_three (answer (codes "X = 1, Y = 3")) ends_13)
    (light one (inl tt) 4 (e14 ∷ []) [] refl (omega arith) (answered one_four (answer (codes "X = 1, Y = 4")) ends_14)
    (no_more one (inl tt) 5 (omega arith))))))

by_two : (limit : ℕ) → 5 ≤ limit → Lists forks_text limit other_one (e23 ∷ e24 ∷ [])
unfolding clause_weight
by_two limit above =
    calls other_one (inl tt) (e23 ∷ e24 ∷ []) tt
    (other other_one (inl tt) 1 (e23 ∷ e24 ∷ []) (omega arith) refl
    (other other_one (inl tt) 2 (e23 ∷ e24 ∷ []) (omega arith) refl
    (light other_one (inl tt) 3 (e23 ∷ []) (e24 ∷ []) refl (omega arith) (answered two_three (answer (codes "X = 2, Y = 3")) ends_23)
    (light other_one (inl tt) 4 (e24 ∷ []) [] refl (omega arith) (answered two_four (answer (codes "X = 2, Y = 4")) ends_24)
    (no_more other_one (inl tt) 5 (omega arith))))))

pub listing : (limit : ℕ) → 5 ≤ limit → Listing forks_text limit (e13 ∷ e14 ∷ e23 ∷ e24 ∷ [])
unfolding clause_weight
listing limit above =
    of_query (e13 ∷ e14 ∷ e23 ∷ e24 ∷ []) (omega arith)
    (calls start (inl tt) (e13 ∷ e14 ∷ e23 ∷ e24 ∷ []) tt
    (light start (inl tt) 1 (e13 ∷ e14 ∷ []) (e23 ∷ e24 ∷ []) refl (omega arith) (by_one limit above)
    (light start (inl tt) 2 (e23 ∷ e24 ∷ []) [] refl (omega arith) (by_two limit above)
    (other start (inl tt) 3 [] (omega arith) refl
    (other start (inl tt) 4 [] (omega arith) refl
    (no_more start (inl tt) 5 (omega arith)))))))

pub exhausted : Exhausted forks_text 5
exhausted = settled forks_text 5 (e13 ∷ e14 ∷ e23 ∷ e24 ∷ []) listing
