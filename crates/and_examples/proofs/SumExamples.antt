-- What a branch keeps in its cells before and after a sum is run: p(1). p(2). ?- Y is 1 + 2, p(X).
use Rattle.std.proofs.Common.{ℕ, zero, suc, ◌≡◌, ◌≢◌, ◌<◌, ◌+◌, false, [], ◌∷◌, refl, sym, subst, ap, ◌∙◌, inl, inr, arith}
use Rattle.and_model.specs.Terms.{Path, none, more, Substitution}
use Rattle.and_model.specs.Arithmetic.{of_two}
use Rattle.and_model.specs.Programs.{clause_at, clause_weight}
use Rattle.and_model.specs.Reductions.{PlaceHas, Makes}
use Rattle.and_model.specs.Stands.{ClauseHas, Framed, IsFramed}
use Rattle.and_model.specs.Store.{is_half}
use Rattle.and_model.specs.declared.builtins.TheConstants.{PLUS}
use Rattle.and_model.specs.declared.goal.Goal.{Goal}
use Rattle.and_model.specs.declared.reference.Ref.TheVariants.{Free, Cell, Number, Half}
use Rattle.and_model.proofs.Tested.{of_one, of_two as both, none_in}
use Rattle.and_laws.proofs.Pairwise.{all_none, all_first}
use Rattle.and_program.specs.Skeletons.{IsSkeleton}
use Rattle.and_cells.specs.Ranges.{CanHold, IsGoalInRange}
use Rattle.and_cells.specs.Seen.{word_at}
use Rattle.and_cells.specs.Rows.{IsSound}
use Rattle.and_cells.specs.Meaning.{unbound, bound, integer, IsSettled, cell_variable}
use Rattle.and_cells.specs.Solved.{HasTerm}
use Rattle.and_cell_laws.proofs.Settling.{settled_rows_have_terms}
use Rattle.and_branch_laws.specs.Variables.{IsVariable}
use Rattle.and_branch_laws.specs.Tasks.{tasks, Drops, RanAmong}
use Rattle.and_branch_laws.specs.Kept.{Kept, HasFreePair, node_item_at}
use Rattle.and_examples.specs.Texts.{own, whole, binary}
use Rattle.and_examples.specs.BranchExamples.{sum, sum_text}
use Rattle.and_examples.specs.KeptExamples.{of_query, sum_skeleton, summing, summed, not_summed, written, sum_start}
use Rattle.and_examples.proofs.KeptExamples.{once_alone, once_both}

pub skeleton_is : IsSkeleton sum_skeleton sum_text
skeleton_is = (
  (tt, ((omega arith, tt), (tt, ((omega arith, tt), (tt, (tt, (tt, (tt, ((omega arith, (omega arith, tt)), (tt, ((omega arith, tt), tt))))))))))),
  (
    record { head = refl; head_there = omega arith; body = refl; body_there = ((omega arith, omega arith, refl), (omega arith, tt)) },
    (
      record { head = refl; head_there = omega arith; body = refl; body_there = tt },
      (record { head = refl; head_there = omega arith; body = refl; body_there = tt }, tt),
    ),
  ),
)

-- the query's variables by their cells
abbrev names : Substitution
names q k = cell_variable (0 + 1 + k)

are_names : (node : ℕ) (q : Path) → PlaceHas [] node q → (k : ℕ) → names q k ≡ cell_variable (node + 1 + k)
are_names node q PlaceHas.query k = refl
are_names node q (PlaceHas.reduced r s among place) k = absurd (none_in r among)

-- the query alone has a place
at_query : (node clause : ℕ) → ClauseHas [] node clause → (node ≡ 0) × (clause ≡ 0)
at_query node clause (inl is) = is
at_query node clause (inr h) = absurd (none_in h.0 h.1)

is_framed : (item : ℕ) → IsFramed [] (of_query item)
is_framed item = (PlaceHas.query, inl (refl, refl))

call_in_range : IsGoalInRange summing 5 (of_query 1).goal
call_in_range = record {
  clause = _;
  item = _;
  clause_is = refl;
  item_is = refl;
  item_in_range = record {
    there = omega arith;
    nameable = omega arith;
    base_below = omega arith;
    cells = of_one (λ (v : Path × ℕ). 0 + 1 + v.1 < 5) ([], 1) (omega arith);
  };
}

sum_in_range : IsGoalInRange summing 5 (of_query 0).goal
sum_in_range = record {
  clause = _;
  item = _;
  clause_is = refl;
  item_is = refl;
  item_in_range = (
    record { there = omega arith; nameable = omega arith; base_below = omega arith; cells = of_one (λ (v : Path × ℕ). 0 + 1 + v.1 < 5) ([], 0) (omega arith) },
    record { there = omega arith; nameable = omega arith; base_below = omega arith; cells = all_none (λ (v : Path × ℕ). 0 + 1 + v.1 < 5) },
    omega arith,
  );
}

-- The sum has run.
fits : (place : ℕ) → CanHold summing 5 place (word_at summed place)
fits zero = tt
fits (suc zero) = omega arith
fits (suc (suc zero)) = tt
fits (suc (suc (suc zero))) = tt
fits (suc (suc (suc (suc zero)))) = tt
fits (suc (suc (suc (suc (suc place))))) = tt

sound : IsSound summing summed
sound = record { fits = fits; written = pair_is; short = omega arith }
  where
    pair_is : (place pair : ℕ) → word_at summed place ≡ Number pair → (word_at summed pair ≢ Free) × (word_at summed (suc pair) ≢ Free)
    pair_is zero pair is = absurd (cc)
    pair_is (suc zero) (suc (suc (suc zero))) is = ((λ e. cc), λ e. cc)
    pair_is (suc zero) zero is = absurd (cc)
    pair_is (suc zero) (suc zero) is = absurd (cc)
    pair_is (suc zero) (suc (suc zero)) is = absurd (cc)
    pair_is (suc zero) (suc (suc (suc (suc pair)))) is = absurd (cc)
    pair_is (suc (suc zero)) pair is = absurd (cc)
    pair_is (suc (suc (suc zero))) pair is = absurd (cc)
    pair_is (suc (suc (suc (suc zero)))) pair is = absurd (cc)
    pair_is (suc (suc (suc (suc (suc place))))) pair is = absurd (cc)

have_terms : (cell : ℕ) → cell < 5 → is_half (word_at summed cell) ≡ false → HasTerm summing summed (Cell cell)
have_terms zero within half = (cell_variable 0, unbound 0 within refl)
have_terms (suc zero) within half = (whole 3, bound 1 (Number 3) (whole 3) (refl, λ e. cc) (integer 3))
have_terms (suc (suc zero)) within half = (cell_variable 2, unbound 2 within refl)
have_terms (suc (suc (suc zero))) within half = cc
have_terms (suc (suc (suc (suc zero)))) within half = cc
have_terms (suc (suc (suc (suc (suc cell))))) within half = absurd (omega arith)

settled : IsSettled summing summed
settled = (settled_rows_have_terms summing summed sound).1 have_terms

first_two : (k : ℕ) → k < 2 → is_half (word_at summed (0 + 1 + k)) ≡ false
first_two zero few = refl
first_two (suc zero) few = refl
first_two (suc (suc k)) few = absurd (omega arith)

whole_cells : (v : Path × ℕ) (i : IsVariable summing [] v) → is_half (word_at summed (i.node + 1 + v.1)) ≡ false
whole_cells v i = of_cell i.node i.clause v.1 (at_query i.node i.clause i.clause_is).0 (at_query i.node i.clause i.clause_is).1 i.own
  where
    of_cell : (node clause k : ℕ) → node ≡ 0 → clause ≡ 0 → k < (clause_at sum_text clause).variables → is_half (word_at summed (node + 1 + k)) ≡ false
    of_cell node clause k at is below =
        let few : k < 2 = subst (λ (c : ℕ). k < (clause_at sum_text c).variables) is below in
        subst (λ (n : ℕ). is_half (word_at summed (n + 1 + k)) ≡ false) (sym at) (first_two k few)

pub ran_kept : Kept summing [] summed (of_query 1 ∷ []) sum_start
unfolding clause_weight of_two
ran_kept = record {
  has = record {
    made = Makes.none;
    long = refl;
    sound = sound;
    framed = of_one (IsFramed []) (of_query 1) (is_framed 1);
    based = of_one (λ (f : Framed). f.goal.base ≡ f.goal.node) (of_query 1) refl;
    in_range = of_one (λ (f : Framed). IsGoalInRange summing 5 f.goal) (of_query 1) call_in_range;
    once = once_alone (of_query 1);
    solved = (own 0, whole 3) ∷ [];
    ran = RanAmong.one [] (tasks sum_start) sum _ (more (binary PLUS (whole 1) (whole 2)) none) ((own 0, whole 3) ∷ []) _
        (Drops.here sum _) (refl, λ s h. refl) (RanAmong.none_yet _ _);
    names = names;
    named = are_names;
    whole = whole_cells;
    free = of_one (λ (f : Framed). HasFreePair summing summed f.goal (node_item_at summing f.goal)) (of_query 1) tt;
  };
  settled = settled;
  states = λ s h. (h.0, tt);
  stated = λ s h. (h.0, tt);
}

-- It has not run.
free_fits : (place : ℕ) → CanHold summing 5 place (word_at not_summed place)
free_fits zero = tt
free_fits (suc zero) = tt
free_fits (suc (suc zero)) = tt
free_fits (suc (suc (suc zero))) = tt
free_fits (suc (suc (suc (suc zero)))) = tt
free_fits (suc (suc (suc (suc (suc place))))) = tt

all_free : (place : ℕ) → word_at not_summed place ≡ Free
all_free zero = refl
all_free (suc zero) = refl
all_free (suc (suc zero)) = refl
all_free (suc (suc (suc zero))) = refl
all_free (suc (suc (suc (suc zero)))) = refl
all_free (suc (suc (suc (suc (suc place))))) = refl

free_sound : IsSound summing not_summed
free_sound = record { fits = free_fits; written = λ place pair is. absurd (not_free pair (sym (all_free place) ∙ is)); short = omega arith }
  where
    not_free : (pair : ℕ) → Free ≡ Number pair → ⊥
    not_free pair e = cc

free_settled : IsSettled summing not_summed
free_settled = (settled_rows_have_terms summing not_summed free_sound).1 (λ cell within half. (cell_variable cell, unbound cell within (all_free cell)))

items_apart : (of_query 0).goal ≢ (of_query 1).goal
items_apart same = let items : zero ≡ suc zero = ap (λ (g : Goal). g.item) same in omega arith

pub waiting_kept : Kept summing [] not_summed (of_query 0 ∷ of_query 1 ∷ []) sum_start
unfolding clause_weight
waiting_kept = record {
  has = record {
    made = Makes.none;
    long = refl;
    sound = free_sound;
    framed = both (IsFramed []) (of_query 0) (of_query 1) (is_framed 0) (is_framed 1);
    based = both (λ (f : Framed). f.goal.base ≡ f.goal.node) (of_query 0) (of_query 1) refl refl;
    in_range = both (λ (f : Framed). IsGoalInRange summing 5 f.goal) (of_query 0) (of_query 1) sum_in_range call_in_range;
    once = once_both (of_query 0) (of_query 1) items_apart;
    solved = [];
    ran = RanAmong.none_yet [] (tasks sum_start);
    names = names;
    named = are_names;
    whole = λ v i. ap is_half (all_free (i.node + 1 + v.1));
    free = both (λ (f : Framed). HasFreePair summing not_summed f.goal (node_item_at summing f.goal)) (of_query 0) (of_query 1) (refl, refl) tt;
  };
  settled = free_settled;
  states = λ s h. tt;
  stated = λ s h. tt;
}

-- As long as it waits, its pair is free.
pub written_early : Kept summing [] written (of_query 0 ∷ of_query 1 ∷ []) sum_start → ⊥
written_early k =
    let free = all_first (λ (f : Framed). HasFreePair summing written f.goal (node_item_at summing f.goal)) (of_query 0) (of_query 1 ∷ []) k.free in
    let high : Half 0 ≡ Free = free.0 in
    cc
