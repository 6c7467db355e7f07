-- What a branch stands for after a reduction whose frame does not begin at the number of its place:
-- p(X) :- q(X), X < 3. q(1). q(2). ?- p(Y).
use Rattle.std.proofs.Common.{ℕ, zero, suc, ◌≡◌, List, [], ◌∷◌, refl, inl, inr, arith}
use Rattle.std.specs.Prelude.{map}
use Rattle.and_model.specs.Terms.{Path, Term, variable, Substitution, apply}
use Rattle.and_model.specs.Solutions.{Solves, MostGeneral}
use Rattle.and_model.specs.Arithmetic.{less}
use Rattle.and_model.specs.Programs.{compare, clause_weight}
use Rattle.and_model.specs.Closure.{Ran}
use Rattle.and_model.specs.Trees.{query_agenda, blank}
use Rattle.and_model.specs.Reductions.{PlaceHas, Makes}
use Rattle.and_model.specs.Stands.{Framed, IsFramed, call_in_tree, IsLive}
use Rattle.and_model.proofs.Tested.{of_two}
use Rattle.and_examples.specs.BasesExamples.{v, p, q, three, P, tree, by_first, item_at_nine, reduced, read_at_base}

pub made : Makes P (by_first ∷ []) tree
unfolding clause_weight
made = Makes.one_more [] [] (by_first ∷ []) (blank (query_agenda P)) by_first (inl tt) refl Makes.none ([], PlaceHas.query, refl) refl refl

abbrev in_frame : ℕ → Framed
in_frame item = record { goal = item_at_nine item; frame = 0 ∷ [] }

is_framed : (item : ℕ) → IsFramed (by_first ∷ []) (in_frame item)
is_framed item = (PlaceHas.reduced by_first [] (0, omega arith, refl) PlaceHas.query, inr (by_first, (0, omega arith, refl), refl, refl))

-- the variable of clause 1 in the tree
abbrev x : Term
x = variable (0 ∷ []) 0

abbrev solution : Substitution
solution [] zero = x
solution [] (suc k) = variable [] (suc k)
solution (i ∷ r) k = variable (i ∷ r) k

through : (t : Substitution) → Solves t ((p (v 0), p x) ∷ []) → (r : Path) (k : ℕ) → t r k ≡ apply t (solution r k)
through t solves [] zero = let e = solves.0 in cc
through t solves [] (suc k) = refl
through t solves (i ∷ r) k = refl

general : MostGeneral solution ((p (v 0), p x) ∷ [])
general = ((refl, tt), through)

pub live : IsLive P (reduced (item_at_nine 0 ∷ [])) tree
live = record {
  goals = in_frame 0 ∷ [];
  waiting = in_frame 1 ∷ [];
  goals_are = refl;
  waiting_are = refl;
  framed = of_two (IsFramed (by_first ∷ [])) (in_frame 0) (in_frame 1) (is_framed 0) (is_framed 1);
  calls = refl;
  solved = (p (v 0), p x) ∷ [];
  waits = compare less x three ∷ [];
  ran = Ran.none_yet ((p (v 0), p x) ∷ []) (compare less x three ∷ []);
  not_run = refl;
  solution = solution;
  general = general;
  read = (((λ r k. x), refl), ((λ r k. v 1), refl));
}

-- The goals are read in the frame at their base, whatever is at their place.
pub at_base : IsLive P read_at_base tree
at_base = record {
  goals = in_frame 0 ∷ [];
  waiting = in_frame 1 ∷ [];
  goals_are = refl;
  waiting_are = refl;
  framed = of_two (IsFramed (by_first ∷ [])) (in_frame 0) (in_frame 1) (is_framed 0) (is_framed 1);
  calls = refl;
  solved = (p (v 0), p x) ∷ [];
  waits = compare less x three ∷ [];
  ran = Ran.none_yet ((p (v 0), p x) ∷ []) (compare less x three ∷ []);
  not_run = refl;
  solution = solution;
  general = general;
  read = (((λ r k. x), refl), ((λ r k. v 1), refl));
}

-- The tree's goal is not lost.
pub lost_goal : IsLive P (reduced []) tree → ⊥
lost_goal lives = none_left lives.goals lives.goals_are lives.calls
  where
    none_left : (goals : List Framed) → map (λ (f : Framed). f.goal) goals ≡ [] → map (call_in_tree P) goals ≡ (0 ∷ 0 ∷ [], q x) ∷ [] → ⊥
    none_left [] empty calls = cc
    none_left (f ∷ goals) empty calls = cc
