-- What branches stand for after a split, and after arithmetic has run, tried on two small programs.
use Rattle.std.proofs.Common.{ℕ, zero, suc, ◌≡◌, ◌<◌, ◌-◌, true, false, [], ◌∷◌, refl, inl, inr, arith}
use Rattle.and_model.specs.Terms.{Path, Term, variable, none, more, Substitution, apply}
use Rattle.and_model.specs.Solutions.{Solves, MostGeneral}
use Rattle.and_model.specs.Programs.{clause_weight}
use Rattle.and_model.specs.Arithmetic.{of_two}
use Rattle.and_model.specs.Closure.{Without, Ran}
use Rattle.and_model.specs.Trees.{QueryTree, query_agenda, blank, equations}
use Rattle.and_model.specs.Reached.{ReachedBy}
use Rattle.and_model.specs.Reductions.{PlaceHas, Makes}
use Rattle.and_model.specs.Stands.{Framed, IsFramed, IsLive, Stands, AreVariants}
use Rattle.and_model.specs.declared.builtins.TheConstants.{PLUS}
use Rattle.and_model.proofs.Tested.{of_one, of_two as both}
use Rattle.and_laws.proofs.Covering.{reached_covers}
use Rattle.and_examples.specs.NumbersExamples.{fails, fails_start}
use Rattle.and_examples.specs.Texts.{own, whole, binary}
use Rattle.and_examples.specs.BranchExamples.{item_of_query, taken_by, split_by, sum, sum_text, at_root, with_sum, without_sum}
use Rattle.and_examples.proofs.ReachedExamples.{x_is_two}
use Rattle.and_examples.proofs.NumbersExamples.{fails_one, fails_other, fails_first, fails_second, fails_dead}
use Rattle.and_examples.proofs.Waiting.{nothing_given}

-- item number `item` of the query, which has the empty path
abbrev of_query : ℕ → Framed
of_query item = record { goal = item_of_query item; frame = [] }

-- ---- p(1). p(2). q(2). q(3). ?- p(X), q(X). With X = 1 no clause is left for q(X).
pub one_reached : ReachedBy fails 10 (1 ∷ []) fails_one
unfolding clause_weight
one_reached = ReachedBy.divided [] fails_start 1 fails_one (ReachedBy.start (omega arith)) fails_first (omega arith)

pub failed_stands : Stands (split_by 1 [] true) (1 ∷ []) fails 10
unfolding clause_weight
failed_stands = record {
  tree = fails_one;
  made = Makes.one_more [] [] (taken_by 1 ∷ []) fails_start (taken_by 1) (inl tt) refl Makes.none ([], PlaceHas.query, refl) refl refl;
  decides = ([], refl);
  reached = one_reached;
  used = refl;
  limit_kept = refl;
  key_kept = refl;
  agrees = reached_covers fails 10 (1 ∷ []) fails_one one_reached;
  state = inl (refl, fails_dead);
}

-- With X = 2 the call q(2) is open.
pub other_reached : ReachedBy fails 10 (2 ∷ []) fails_other
unfolding clause_weight
other_reached = ReachedBy.divided [] fails_start 2 fails_other (ReachedBy.start (omega arith)) fails_second (omega arith)

other_general : MostGeneral x_is_two (equations fails_other)
other_general = ((refl, tt), through)
  where
    through : (t : Substitution) → Solves t (equations fails_other) → (r : Path) (k : ℕ) → t r k ≡ apply t (x_is_two r k)
    through t h [] zero = let e = h.0 in cc
    through t h [] (suc k) = refl
    through t h (i ∷ r) k = refl

other_live : IsLive fails (split_by 2 (item_of_query 1 ∷ []) false) fails_other
other_live = record {
  goals = of_query 1 ∷ [];
  waiting = [];
  goals_are = refl;
  waiting_are = refl;
  framed = of_one (IsFramed (taken_by 2 ∷ [])) (of_query 1) (PlaceHas.query, inl (refl, refl));
  calls = refl;
  solved = equations fails_other;
  waits = [];
  ran = Ran.none_yet (equations fails_other) [];
  not_run = refl;
  solution = x_is_two;
  general = other_general;
  read = ((nothing_given, refl), (nothing_given, refl));
}

pub split_stands : Stands (split_by 2 (item_of_query 1 ∷ []) false) (2 ∷ []) fails 10
unfolding clause_weight
split_stands = record {
  tree = fails_other;
  made = Makes.one_more [] [] (taken_by 2 ∷ []) fails_start (taken_by 2) (inl tt) refl Makes.none ([], PlaceHas.query, refl) refl refl;
  decides = ([], refl);
  reached = other_reached;
  used = refl;
  limit_kept = refl;
  key_kept = refl;
  agrees = reached_covers fails 10 (2 ∷ []) fails_other other_reached;
  state = inr (refl, other_live);
}

-- A branch does not stand under another key than its own.
pub other_key : Stands (split_by 2 (item_of_query 1 ∷ []) false) [] fails 10 → ⊥
other_key stands = let e : 2 ∷ [] ≡ [] = stands.key_kept in cc

-- ---- p(1). p(2). ?- Y is 1 + 2, p(X).
abbrev sum_start : QueryTree sum_text
sum_start = blank (query_agenda sum_text)

pub sum_reached : ReachedBy sum_text 10 [] sum_start
unfolding clause_weight
sum_reached = ReachedBy.start (omega arith)

-- Y = 3 is added.
sum_ran : Ran [] (sum ∷ []) ((own 0, whole 3) ∷ []) []
unfolding of_two
sum_ran =
    Ran.one [] (sum ∷ []) sum [] (more (binary PLUS (whole 1) (whole 2)) none) ((own 0, whole 3) ∷ []) []
    (Without.here sum []) (refl, λ s h. refl)
    (Ran.none_yet ((own 0, whole 3) ∷ []) [])

abbrev y_is_three : Substitution
y_is_three [] zero = whole 3
y_is_three [] (suc k) = variable [] (suc k)
y_is_three (i ∷ q) k = variable (i ∷ q) k

y_general : MostGeneral y_is_three ((own 0, whole 3) ∷ [])
y_general = ((refl, tt), through)
  where
    through : (t : Substitution) → Solves t ((own 0, whole 3) ∷ []) → (r : Path) (k : ℕ) → t r k ≡ apply t (y_is_three r k)
    through t h [] zero = h.0
    through t h [] (suc k) = refl
    through t h (i ∷ r) k = refl

-- X is cell 2.
abbrev to_cell : Substitution
to_cell q k = own 2

abbrev from_cell : Substitution
from_cell q k = own 1

ran_live : IsLive sum_text (at_root with_sum []) sum_start
ran_live = record {
  goals = of_query 1 ∷ [];
  waiting = [];
  goals_are = refl;
  waiting_are = refl;
  framed = of_one (IsFramed []) (of_query 1) (PlaceHas.query, inl (refl, refl));
  calls = refl;
  solved = (own 0, whole 3) ∷ [];
  waits = [];
  ran = sum_ran;
  not_run = refl;
  solution = y_is_three;
  general = y_general;
  read = ((from_cell, refl), (to_cell, refl));
}

pub ran_stands : Stands (at_root with_sum []) [] sum_text 10
unfolding clause_weight
ran_stands = record {
  tree = sum_start;
  made = Makes.none;
  decides = ([], refl);
  reached = sum_reached;
  used = refl;
  limit_kept = refl;
  key_kept = refl;
  agrees = reached_covers sum_text 10 [] sum_start sum_reached;
  state = inr (refl, ran_live);
}

-- The sum may wait, though it could run. The variable k of the query is the cell k + 1.
abbrev one_up : Substitution
one_up q k = own (suc k)

abbrev one_down : Substitution
one_down q k = own (k - 1)

waiting_live : IsLive sum_text (at_root without_sum (item_of_query 0 ∷ [])) sum_start
waiting_live = record {
  goals = of_query 1 ∷ [];
  waiting = of_query 0 ∷ [];
  goals_are = refl;
  waiting_are = refl;
  framed = both (IsFramed []) (of_query 1) (of_query 0) (PlaceHas.query, inl (refl, refl)) (PlaceHas.query, inl (refl, refl));
  calls = refl;
  solved = [];
  waits = sum ∷ [];
  ran = Ran.none_yet [] (sum ∷ []);
  not_run = refl;
  solution = nothing_given;
  general = (tt, λ t h r k. refl);
  read = ((one_down, refl), (one_up, refl));
}

pub waiting_stands : Stands (at_root without_sum (item_of_query 0 ∷ [])) [] sum_text 10
unfolding clause_weight
waiting_stands = record {
  tree = sum_start;
  made = Makes.none;
  decides = ([], refl);
  reached = sum_reached;
  used = refl;
  limit_kept = refl;
  key_kept = refl;
  agrees = reached_covers sum_text 10 [] sum_start sum_reached;
  state = inr (refl, waiting_live);
}

-- two variables of the query
apart : (j k : ℕ) → j < k → variable [] j ≡ variable [] k → ⊥
apart j k less same = let e : j ≡ k = cc in omega arith

-- One renaming serves a whole list: one cell is not two variables.
pub one_renaming : AreVariants (own 1 ∷ own 1 ∷ []) (own 0 ∷ own 1 ∷ []) → ⊥
one_renaming variants = clash (variants.0.0 [] 1) variants.0.1
  where
    clash : (t : Term) → t ∷ t ∷ [] ≡ own 0 ∷ own 1 ∷ [] → ⊥
    clash t e = apart 0 1 (omega arith) (cc)
