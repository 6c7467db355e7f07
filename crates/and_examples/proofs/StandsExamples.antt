-- What a branch stands for, tried at the root of a small program: p(a,b). ?- X = a, p(X,Y).
use Rattle.std.proofs.Common.{ℕ, zero, suc, ◌≡◌, ◌⊎◌, true, false, ◌&&◌, List, [], ◌∷◌, ◌++◌, refl, sym, subst, ap, ◌∙◌, inl, inr, true≢false, arith}
use Rattle.std.specs.Prelude.{leb, ltb}
use Rattle.and_model.specs.Terms.{Path, Term, variable, Substitution, apply}
use Rattle.and_model.specs.Solutions.{Equation, Solves, MostGeneral}
use Rattle.and_model.specs.Programs.{Arithmetic, clause_weight}
use Rattle.and_model.specs.Closure.{Without, Ran}
use Rattle.and_model.specs.Trees.{QueryTree, query_agenda, blank, done, left, by, equate, Below, both_done, both_left, grown, both_equate}
use Rattle.and_model.specs.Reached.{ReachedBy, Dead}
use Rattle.and_model.specs.Reductions.{Reduction, PlaceHas, Makes}
use Rattle.and_model.specs.Stands.{Framed, IsFramed, IsLive, Stands}
use Rattle.and_model.proofs.Tested.{second_true, of_one}
use Rattle.and_examples.specs.StandsExamples.{a, b, v, P, read, root, bound_too_much, bound_too_little}

abbrev start : QueryTree P
start = blank (query_agenda P)

abbrev goal : Framed
goal = record { goal = record { node = 0; item = 1; clause = record { 0 = 0 }; base = 0 }; frame = [] }

-- the one clause
below_start : (u : QueryTree P) → Below P (query_agenda P) start u
below_start (equate (left done)) = both_equate (both_left both_done)
below_start (equate (by zero h u)) = absurd (true≢false (sym h))
below_start (equate (by (suc zero) h done)) = both_equate (grown 1 h done both_done)
below_start (equate (by (suc (suc c)) h u)) = absurd (true≢false (sym (second_true (ltb 0 (suc (suc c)) && leb (suc (suc c)) 1) false h)))

abbrev solution : Substitution
solution [] zero = a
solution [] (suc k) = variable [] (suc k)
solution (i ∷ q) k = variable (i ∷ q) k

general : MostGeneral solution ((v 0, a) ∷ [])
general = ((refl, tt), through)
  where
    through : (t : Substitution) → Solves t ((v 0, a) ∷ []) → (q : Path) (k : ℕ) → t q k ≡ apply t (solution q k)
    through t solves [] zero = solves.0
    through t solves [] (suc k) = refl
    through t solves (i ∷ q) k = refl

-- one renaming, there and back: cell 2 is Y
abbrev cell_to_variable : Substitution
cell_to_variable q k = v 1

abbrev variable_to_cell : Substitution
variable_to_cell q k = v 2

live : IsLive P (root read) start
live = record {
  goals = goal ∷ [];
  waiting = [];
  goals_are = refl;
  waiting_are = refl;
  framed = of_one (IsFramed []) goal (PlaceHas.query, inl (refl, refl));
  calls = refl;
  solved = (v 0, a) ∷ [];
  waits = [];
  ran = Ran.none_yet ((v 0, a) ∷ []) [];
  not_run = refl;
  solution = solution;
  general = general;
  read = ((cell_to_variable, refl), (variable_to_cell, refl));
}

pub root_stands : Stands (root read) [] P 10
unfolding clause_weight
root_stands = record {
  tree = start;
  made = Makes.none;
  decides = ([], refl);
  reached = ReachedBy.start (omega arith);
  used = refl;
  limit_kept = refl;
  key_kept = refl;
  agrees = λ u has begins. below_start u;
  state = inr (refl, live);
}

-- The tree that no reductions make is the query's.
no_reductions : (t : QueryTree P) → Makes P [] t → t ≡ start
no_reductions t made = of_none [] t refl made
  where
    of_none : (rs : List Reduction) (t : QueryTree P) → rs ≡ [] → Makes P rs t → t ≡ start
    of_none rs t none_made Makes.none = refl
    of_none rs t none_made (Makes.one_more front back all u r o h makes has is all_is) = absurd (not_empty front back r (sym none_made ∙ all_is))
      where
        not_empty : (front back : List Reduction) (r : Reduction) → [] ≡ front ++ r ∷ back → ⊥
        not_empty [] back r e = cc
        not_empty (x ∷ front) back r e = cc

pub nothing_ran : (es ds : List Equation) (gs ws : List Arithmetic) → gs ≡ [] → Ran es gs ds ws → ds ≡ es
nothing_ran es ds gs ws empty (Ran.none_yet _ _) = refl
nothing_ran es ds gs ws empty (Ran.one _ _ g bs ts _ _ taken_out known ran) = absurd (not_there gs g bs empty taken_out)
  where
    not_there : (gs : List Arithmetic) (g : Arithmetic) (bs : List Arithmetic) → gs ≡ [] → Without gs g bs → ⊥
    not_there gs g bs empty (Without.here _ _) = cc
    not_there gs g bs empty (Without.there _ _ _ _ _) = cc

-- A root branch that stands has its cells read so, whatever they are.
reads : (reading : ℕ → ℕ → Term) → Stands (root reading) [] P 10
    → (s : Substitution) × MostGeneral s ((v 0, a) ∷ [])
    × ((r : Substitution) × (apply r (reading 0 0) ≡ s [] 0) × (apply r (reading 0 1) ≡ s [] 1))
    × ((r : Substitution) × (apply r (s [] 0) ≡ reading 0 0))
reads reading stands = by_state stands.state
  where
    by_state : ((false ≡ true) × Dead stands.tree) ⊎ ((false ≡ false) × IsLive P (root reading) stands.tree)
        → (s : Substitution) × MostGeneral s ((v 0, a) ∷ [])
        × ((r : Substitution) × (apply r (reading 0 0) ≡ s [] 0) × (apply r (reading 0 1) ≡ s [] 1))
        × ((r : Substitution) × (apply r (s [] 0) ≡ reading 0 0))
    by_state (inl failed) = absurd (true≢false (sym failed.0))
    by_state (inr (same, live)) =
        let at_start : IsLive P (root reading) start = subst (λ t. IsLive P (root reading) t) (no_reductions stands.tree stands.made) live in
        let solved : at_start.solved ≡ (v 0, a) ∷ [] = nothing_ran ((v 0, a) ∷ []) at_start.solved [] at_start.waits refl at_start.ran in
        let there = at_start.read.0.1 in
        let back = at_start.read.1.1 in
        (at_start.solution, subst (λ es. MostGeneral at_start.solution es) solved at_start.general, (at_start.read.0.0, cc, cc), (at_start.read.1.0, cc))

abbrev other : Substitution
other [] zero = a
other [] (suc k) = b
other (i ∷ q) k = b

pub too_much : Stands (root bound_too_much) [] P 10 → ⊥
too_much stands =
    let (s, general, (r, x, y), back) = reads bound_too_much stands in
    let through : b ≡ apply other (s [] 1) = general.1 other (refl, tt) [] 1 in
    let clash : b ≡ a = through ∙ ap (apply other) (sym y) in
    cc

pub too_little : Stands (root bound_too_little) [] P 10 → ⊥
too_little stands =
    let (s, general, there, (r, x)) = reads bound_too_little stands in
    let is : s [] 0 ≡ a = general.0.0 in
    let clash : a ≡ variable [] 1 = ap (apply r) (sym is) ∙ x in
    cc
