-- Example equal-answers: p(a). p(a). ?- p(X).
use Rattle.std.proofs.Common.{ℕ, zero, suc, ◌≡◌, ◌≤◌, List, [], ◌∷◌, refl, inl, inr, arith, codes}
use Rattle.and_model.specs.Terms.{Path, variable, compound, none, Substitution, apply}
use Rattle.and_model.specs.Solutions.{Equation, Solves, MostGeneral}
use Rattle.and_model.specs.Programs.{clause_weight, own_name}
use Rattle.and_model.specs.Closure.{Closes}
use Rattle.and_model.specs.Trees.{QueryTree, query_agenda, blank, done, by}
use Rattle.and_model.specs.Listing.{Ends, answer, Entry, Listing, Exhausted, answered, calls, no_more, heavy, light, of_query}
use Rattle.and_model.specs.Output.{OverLeft}
use Rattle.and_examples.specs.Ending.{entry}
use Rattle.and_examples.specs.Texts.{own, p, equal_text}
use Rattle.and_examples.proofs.Exhausting.{settled}

abbrev start : QueryTree equal_text
start = blank (query_agenda equal_text)

abbrev first_tree : QueryTree equal_text
first_tree = by 1 refl done

abbrev second_tree : QueryTree equal_text
second_tree = by 2 refl done

abbrev x_is_a : Substitution
x_is_a [] zero = compound (own_name 1) none
x_is_a [] (suc k) = variable [] (suc k)
x_is_a (i ∷ r) k = variable (i ∷ r) k

abbrev taken : List Equation
taken = (p (own 0), p (compound (own_name 1) none)) ∷ []

general : MostGeneral x_is_a taken
general = ((refl, tt), through)
  where
    through : (t : Substitution) → Solves t taken → (r : Path) (k : ℕ) → t r k ≡ apply t (x_is_a r k)
    through t h [] zero = let e = h.0 in cc
    through t h [] (suc k) = refl
    through t h (i ∷ r) k = refl

first_ends : Ends first_tree (answer (codes "X = a"))
first_ends = (tt, taken, [], Closes.waiting taken [] tt, x_is_a, general, refl)

second_ends : Ends second_tree (answer (codes "X = a"))
second_ends = (tt, taken, [], Closes.waiting taken [] tt, x_is_a, general, refl)

abbrev one : Entry
one = entry (1 ∷ []) (answer (codes "X = a"))

abbrev two : Entry
two = entry (2 ∷ []) (answer (codes "X = a"))

-- the query weighs 2, and each fact 1
pub listing : (limit : ℕ) → 3 ≤ limit → Listing equal_text limit (one ∷ two ∷ [])
unfolding clause_weight
listing limit above =
    of_query (one ∷ two ∷ []) (omega arith)
    (calls start (inl tt) (one ∷ two ∷ []) tt
    (light start (inl tt) 1 (one ∷ []) (two ∷ []) refl (omega arith) (answered first_tree (answer (codes "X = a")) first_ends)
    (light start (inl tt) 2 (two ∷ []) [] refl (omega arith) (answered second_tree (answer (codes "X = a")) second_ends)
    (no_more start (inl tt) 3 (omega arith)))))

pub exhausted : Exhausted equal_text 3
exhausted = settled equal_text 3 (one ∷ two ∷ []) listing

pub too_heavy : Listing equal_text 2 [] × OverLeft equal_text 2 [] 1 × OverLeft equal_text 2 [] 2
unfolding clause_weight
too_heavy = (
  of_query [] (omega arith)
      (calls start (inl tt) [] tt
      (heavy start (inl tt) 1 [] refl (omega arith)
      (heavy start (inl tt) 2 [] refl (omega arith)
      (no_more start (inl tt) 3 (omega arith))))),
  inr (start, refl, omega arith, [], [], Closes.waiting [] [] tt, (x_is_a, tt), inl tt, tt, refl, omega arith),
  inr (start, refl, omega arith, [], [], Closes.waiting [] [] tt, (x_is_a, tt), inl tt, tt, refl, omega arith),
)
