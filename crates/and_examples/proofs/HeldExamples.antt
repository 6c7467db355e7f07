-- Branches as they are held, tried on three small programs.
use Rattle.std.proofs.Common.{ℕ, zero, suc, ◌≡◌, ◌≢◌, ◌<◌, ◌+◌, true, false, [], ◌∷◌, refl, sym, ap, inl, inr, true≢false, arith}
use Rattle.and_model.specs.Terms.{Path}
use Rattle.and_model.specs.Programs.{clause_weight}
use Rattle.and_model.specs.Closure.{Closes}
use Rattle.and_model.specs.Trees.{query_agenda, blank, equations}
use Rattle.and_model.specs.Reached.{CandidateOf, Step, ReachedBy}
use Rattle.and_model.specs.Reductions.{PlaceHas, Makes}
use Rattle.and_model.specs.Stands.{Framed, IsFramed}
use Rattle.and_model.specs.Store.{is_half}
use Rattle.and_model.specs.declared.reference.Ref.TheVariants.{Free, Cell, Number}
use Rattle.and_model.proofs.Tested.{of_one}
use Rattle.and_laws.proofs.Agreeing.{dead_below_shut, step_above}
use Rattle.and_laws.proofs.Deciding.{of_bounds}
use Rattle.and_laws.proofs.Ordered.{contains_none}
use Rattle.and_laws.proofs.Pairwise.{all_none}
use Rattle.and_cells.specs.Ranges.{CanHold, IsGoalInRange}
use Rattle.and_cells.specs.Seen.{word_at}
use Rattle.and_cells.specs.Rows.{IsSound}
use Rattle.and_cells.specs.Meaning.{unbound, IsSettled, cell_variable}
use Rattle.and_cells.specs.Solved.{HasTerm}
use Rattle.and_cell_laws.proofs.Settling.{settled_rows_have_terms}
use Rattle.and_branch_laws.specs.Tasks.{tasks, RanAmong}
use Rattle.and_branch_laws.specs.Kept.{Kept, HasFreePair, node_item_at}
use Rattle.and_branch_parts.specs.Branches.{IsBranchOf, Lives}
use Rattle.and_examples.specs.Texts.{whole}
use Rattle.and_examples.specs.BasesExamples.{P, p, v, tree}
use Rattle.and_examples.specs.BranchExamples.{item_of_query, taken_by}
use Rattle.and_examples.specs.KeptExamples.{of_query, text, goals, summing, sum_start}
use Rattle.and_examples.specs.NumbersExamples.{fails, fails_start}
use Rattle.and_examples.specs.ViewExamples.{failing, bound_row}
use Rattle.and_examples.specs.HeldExamples.{reduced, split_held, sum_held}
use Rattle.and_examples.proofs.BasesExamples.{made}
use Rattle.and_examples.proofs.BranchExamples.{one_reached, other_reached, sum_reached}
use Rattle.and_examples.proofs.KeptExamples.{names, are_names, once_alone, kept}
use Rattle.and_examples.proofs.NumbersExamples.{fails_one, fails_other, fails_dead, fails_answer, fails_step, fails_ended}
use Rattle.and_examples.proofs.SumExamples.{ran_kept}
use Rattle.and_examples.proofs.ViewExamples.{made_other, x_is_two}

-- ---- p(X) :- q(X), X < 3. q(1). q(2). ?- p(Y). Clause 1 is the one candidate of the query's call.
alone : (c : ℕ) → CandidateOf (blank {P = P} (query_agenda P)) [] (inl tt) c → c ≡ 1
alone zero k = absurd (true≢false (sym k.0))
alone (suc zero) k = refl
alone (suc (suc zero)) k = absurd (true≢false (sym k.0))
alone (suc (suc (suc zero))) k = absurd (true≢false (sym k.0))
alone (suc (suc (suc (suc c)))) k = let b = (of_bounds P (p (v 0)) (suc (suc (suc (suc c)))) k.0).1 in absurd (omega arith)

step : Step (blank {P = P} (query_agenda P)) tree
step = ([], [], Closes.waiting [] [] tt, inl tt, 1, refl, refl, alone)

reached : ReachedBy P 10 [] tree
unfolding clause_weight
reached = ReachedBy.stepped [] (blank (query_agenda P)) tree (ReachedBy.start (omega arith)) step (omega arith)

lives : Lives text reduced tree
lives = record { kept = goals; keeps = kept; goals = refl; long = refl; live = refl; asleep = λ w h. absurd (contains_none w h) }

pub reduced_is : IsBranchOf text reduced tree
unfolding clause_weight
reduced_is = record { made = made; reached = reached; bounded = omega arith; used = refl; state = inr lives }

-- ---- p(1). p(2). ?- Y is 1 + 2, p(X).
sum_lives : Lives summing sum_held sum_start
sum_lives = record { kept = of_query 1 ∷ []; keeps = ran_kept; goals = refl; long = refl; live = refl; asleep = λ w h. absurd (contains_none w h) }

pub sum_is : IsBranchOf summing sum_held sum_start
unfolding clause_weight
sum_is = record { made = Makes.none; reached = sum_reached; bounded = omega arith; used = refl; state = inr sum_lives }

-- ---- p(1). p(2). q(2). q(3). ?- p(X), q(X). By clause 1 the branch has failed, whatever is in its cells.
made_one : Makes fails (taken_by 1 ∷ []) fails_one
unfolding clause_weight
made_one = Makes.one_more [] [] (taken_by 1 ∷ []) fails_start (taken_by 1) (inl tt) refl Makes.none ([], PlaceHas.query, refl) refl refl

pub failed_is : IsBranchOf failing (split_held 1 [] [] true) fails_one
unfolding clause_weight
failed_is = record { made = made_one; reached = one_reached; bounded = omega arith; used = refl; state = inl (refl, fails_dead) }

-- By clause 2 it has not. Its X is bound to the 2 of the clause's head.
fits : (place : ℕ) → CanHold failing 3 place (word_at bound_row place)
fits zero = tt
fits (suc zero) = (
  record { there = omega arith; nameable = omega arith; base_below = omega arith; cells = all_none (λ (v : Path × ℕ). 2 + 1 + v.1 < 3) },
  λ k e. cc,
)
fits (suc (suc zero)) = tt
fits (suc (suc (suc place))) = tt

sound : IsSound failing bound_row
sound = record { fits = fits; written = no_number; short = omega arith }
  where
    no_number : (place pair : ℕ) → word_at bound_row place ≡ Number pair → (word_at bound_row pair ≢ Free) × (word_at bound_row (suc pair) ≢ Free)
    no_number zero pair is = absurd (cc)
    no_number (suc zero) pair is = absurd (cc)
    no_number (suc (suc zero)) pair is = absurd (cc)
    no_number (suc (suc (suc place))) pair is = absurd (cc)

no_half : (place : ℕ) → is_half (word_at bound_row place) ≡ false
no_half zero = refl
no_half (suc zero) = refl
no_half (suc (suc zero)) = refl
no_half (suc (suc (suc place))) = refl

have_terms : (cell : ℕ) → cell < 3 → is_half (word_at bound_row cell) ≡ false → HasTerm failing bound_row (Cell cell)
have_terms zero within half = (cell_variable 0, unbound 0 within refl)
have_terms (suc zero) within half = (whole 2, x_is_two)
have_terms (suc (suc zero)) within half = (cell_variable 2, unbound 2 within refl)
have_terms (suc (suc (suc cell))) within half = absurd (omega arith)

settled : IsSettled failing bound_row
settled = (settled_rows_have_terms failing bound_row sound).1 have_terms

call_in_range : IsGoalInRange failing 3 (of_query 1).goal
call_in_range = record {
  clause = _;
  item = _;
  clause_is = refl;
  item_is = refl;
  item_in_range = record {
    there = omega arith;
    nameable = omega arith;
    base_below = omega arith;
    cells = of_one (λ (v : Path × ℕ). 0 + 1 + v.1 < 3) ([], 0) (omega arith);
  };
}

split_kept : Kept failing (taken_by 2 ∷ []) bound_row (of_query 1 ∷ []) fails_other
unfolding clause_weight
split_kept = record {
  has = record {
    made = made_other;
    long = refl;
    sound = sound;
    framed = of_one (IsFramed (taken_by 2 ∷ [])) (of_query 1) (PlaceHas.query, inl (refl, refl));
    based = of_one (λ (f : Framed). f.goal.base ≡ f.goal.node) (of_query 1) refl;
    in_range = of_one (λ (f : Framed). IsGoalInRange failing 3 f.goal) (of_query 1) call_in_range;
    once = once_alone (of_query 1);
    solved = equations fails_other;
    ran = RanAmong.none_yet (equations fails_other) (tasks fails_other);
    names = names;
    named = are_names 2;
    whole = λ v i. no_half (i.node + 1 + v.1);
    free = of_one (λ (f : Framed). HasFreePair failing bound_row f.goal (node_item_at failing f.goal)) (of_query 1) tt;
  };
  settled = settled;
  states = λ s h. (ap p h.0, tt);
  stated = λ s h. (let e = h.0 in cc, tt);
}

split_lives : Lives failing (split_held 2 bound_row (item_of_query 1 ∷ []) false) fails_other
split_lives = record { kept = of_query 1 ∷ []; keeps = split_kept; goals = refl; long = refl; live = refl; asleep = λ w h. absurd (contains_none w h) }

pub split_is : IsBranchOf failing (split_held 2 bound_row (item_of_query 1 ∷ []) false) fails_other
unfolding clause_weight
split_is = record { made = made_other; reached = other_reached; bounded = omega arith; used = refl; state = inr split_lives }

-- That tree goes on to an answer, so it is not dead.
pub marked : IsBranchOf failing (split_held 2 bound_row (item_of_query 1 ∷ []) true) fails_other → ⊥
marked b = elim b.state [
  | inl failed ↦ dead_below_shut fails_other fails_answer (step_above fails_other fails_answer fails_step) failed.1 fails_ended
  | inr lives ↦ true≢false lives.live
]
