-- Trials of the definitions on small programs. Expected values are worked out by hand.
use Rattle.std.proofs.Common.{ℕ, ◌≡◌, ◌≢◌, [], ◌∷◌, refl, sym, inl, inr, true≢false, arith, zero, suc, pos, codes}
use Rattle.std.specs.Fmt.{digits}
use Rattle.and_model.specs.Terms.{Path, variable, number, Substitution, apply}
use Rattle.and_model.specs.Solutions.{Solves, MostGeneral}
use Rattle.and_model.specs.Programs.{clause_weight}
use Rattle.and_model.specs.Closure.{Closes}
use Rattle.and_model.specs.Trees.{QueryTree, Open, reduce, equations, code, weight, HasOutcome}
use Rattle.and_model.specs.Listing.{Ends, answer, Entry, Lists, Listing, answered, nothing, calls, no_more, other, light, of_query}
use Rattle.and_model.specs.Reductions.{PlaceHas, Makes, one_more}
use Rattle.and_model.specs.Reached.{CandidateOf, Step, Shut, Split, ReachedBy}
use Rattle.and_laws.proofs.Deciding.{of_bounds}
use Rattle.and_laws.proofs.Closing.{closing_keeps, closes_anyhow}
use Rattle.and_examples.specs.ReachedExamples.{p, q, x, two, early, early_start, early_filtered, early_answer, by_three, by_two, forks, forks_start}

pub early_start_weighs : weight early_start ≡ 2
unfolding clause_weight
early_start_weighs = refl

-- q(X) has one candidate, clause 3,
pub early_third : (d : ℕ) → CandidateOf early_start [] (inr (inl tt)) d → d ≡ 3
early_third zero k = absurd (true≢false (sym k.0))
early_third (suc zero) k = absurd (true≢false (sym k.0))
early_third (suc (suc zero)) k = absurd (true≢false (sym k.0))
early_third (suc (suc (suc zero))) k = refl
early_third (suc (suc (suc (suc d)))) k = let b = (of_bounds early (q x) (suc (suc (suc (suc d)))) k.0).1 in absurd (omega arith)

-- so it is reduced first.
pub early_first : Step early_start early_filtered
early_first = ([], [], Closes.waiting [] [] tt, inr (inl tt), 3, refl, refl, early_third)

early_equations : equations early_filtered ≡ (q x, q two) ∷ []
early_equations = refl

-- Then p(X) has the candidate 2 alone.
early_not_first : CandidateOf early_filtered ((q x, q two) ∷ []) (inl tt) 1 → ⊥
early_not_first k = let a = k.1.1.0 in let b = k.1.1.1.0 in cc

early_second : (d : ℕ) → CandidateOf early_filtered ((q x, q two) ∷ []) (inl tt) d → d ≡ 2
early_second zero k = absurd (true≢false (sym k.0))
early_second (suc zero) k = absurd (early_not_first k)
early_second (suc (suc zero)) k = refl
early_second (suc (suc (suc zero))) k = absurd (true≢false (sym k.0))
early_second (suc (suc (suc (suc d)))) k = let b = (of_bounds early (p x) (suc (suc (suc (suc d)))) k.0).1 in absurd (omega arith)

pub early_step : Step early_filtered early_answer
early_step = ((q x, q two) ∷ [], [], Closes.waiting ((q x, q two) ∷ []) [] tt, inl tt, 2, refl, refl, early_second)

-- The proof's code is [2, 3], it weighs 4, and its answer is X = 2.
pub early_code : code early_answer ≡ 2 ∷ 3 ∷ []
early_code = refl

pub early_weighs : weight early_answer ≡ 4
unfolding clause_weight
early_weighs = refl

abbrev pub x_is_two : Substitution
x_is_two [] zero = two
x_is_two [] (suc k) = variable [] (suc k)
x_is_two (i ∷ r) k = variable (i ∷ r) k

x_is_two_general : MostGeneral x_is_two (equations early_answer)
x_is_two_general = ((refl, (refl, tt)), λ t h r k. goes t h r k)
  where
    goes : (t : Substitution) → Solves t (equations early_answer) → (r : Path) (k : ℕ) → t r k ≡ apply t (x_is_two r k)
    goes t h [] zero = let e = h.0 in cc
    goes t h [] (suc k) = refl
    goes t h (i ∷ r) k = refl

pub early_ends : Ends early_answer (answer (codes "X = 2"))
unfolding digits
early_ends = (tt, equations early_answer, [], Closes.waiting (equations early_answer) [] tt, x_is_two, x_is_two_general, refl)

pub early_made : Makes early (by_three ∷ by_two ∷ []) early_answer × Makes early (by_two ∷ by_three ∷ []) early_answer
unfolding clause_weight
early_made =
    let first : Makes early (by_three ∷ []) early_filtered =
    one_more [] [] (by_three ∷ []) early_start by_three (inr (inl tt)) refl Makes.none ([], PlaceHas.query, refl) refl refl in (
      one_more (by_three ∷ []) [] (by_three ∷ by_two ∷ []) early_filtered by_two (inl tt) refl first ([], PlaceHas.query, refl) refl refl,
      one_more [] (by_three ∷ []) (by_two ∷ by_three ∷ []) early_filtered by_two (inl tt) refl first ([], PlaceHas.query, refl) refl refl,
    )

-- The listing within the limit 4 has one entry. By clause 1, the proof of q(1) fails.
abbrev early_one : QueryTree early
early_one = reduce early_start (inl tt) 1 refl

abbrev early_failed : QueryTree early
early_failed = reduce early_one (inl tt) 3 refl

early_failed_none : HasOutcome early_failed → ⊥
early_failed_none out =
    let keeps = closing_keeps (equations early_failed) [] out.0 out.1 (closes_anyhow (equations early_failed) [] out.0 out.1 out.3) in
    let solved = keeps out.4.0 out.4.1 in
    let a = solved.0 in
    let b = solved.1.0 in
    cc

abbrev early_other : QueryTree early
early_other = reduce early_start (inl tt) 2 refl

pub early_listing : Listing early 4 (record { code = 2 ∷ 3 ∷ []; outcome = answer (codes "X = 2") } ∷ [])
unfolding clause_weight digits
early_listing =
    let entry : Entry = record { code = 2 ∷ 3 ∷ []; outcome = answer (codes "X = 2") } in
    let failed : Lists early 4 early_one [] =
    calls early_one (inl tt) [] tt
    (other early_one (inl tt) 1 [] (omega arith) refl
    (other early_one (inl tt) 2 [] (omega arith) refl
    (light early_one (inl tt) 3 [] [] refl (omega arith) (nothing early_failed tt early_failed_none)
    (no_more early_one (inl tt) 4 (omega arith))))) in
    let found : Lists early 4 early_other (entry ∷ []) =
    calls early_other (inl tt) (entry ∷ []) tt
    (other early_other (inl tt) 1 (entry ∷ []) (omega arith) refl
    (other early_other (inl tt) 2 (entry ∷ []) (omega arith) refl
    (light early_other (inl tt) 3 (entry ∷ []) [] refl (omega arith) (answered (reduce early_other (inl tt) 3 refl) (answer (codes "X = 2")) early_ends)
    (no_more early_other (inl tt) 4 (omega arith))))) in
    of_query (entry ∷ []) (omega arith)
    (calls early_start (inl tt) (entry ∷ []) tt
    (light early_start (inl tt) 1 [] (entry ∷ []) refl (omega arith) failed
    (light early_start (inl tt) 2 (entry ∷ []) [] refl (omega arith) found
    (other early_start (inl tt) 3 [] (omega arith) refl
    (no_more early_start (inl tt) 4 (omega arith))))))

-- the substitution that gives every variable this number
abbrev pub all_are : ℕ → Substitution
all_are n = λ r k. number (pos n)

-- both goals have two candidates
forks_two : (o : Open forks_start) → (c : ℕ) × (d : ℕ) × (c ≢ d) × CandidateOf forks_start [] o c × CandidateOf forks_start [] o d
forks_two (inl u) = (1, 2, (λ e. cc), (refl, (all_are 1, (refl, tt)), λ a i. elim i [ ]), (refl, (all_are 2, (refl, tt)), λ a i. elim i [ ]))
forks_two (inr (inl u)) = (3, 4, (λ e. cc), (refl, (all_are 3, (refl, tt)), λ a i. elim i [ ]), (refl, (all_are 4, (refl, tt)), λ a i. elim i [ ]))
forks_two (inr (inr n)) = elim n [ ]

-- so the query's tree is Shut,
pub forks_shut : Shut forks_start
forks_shut = ([], [], Closes.waiting [] [] tt, (all_are 1, tt), forks_two)

-- and is split by 1 and by 2.
pub forks_first : Split forks_start 1 (reduce forks_start (inl tt) 1 refl)
forks_first = (forks_shut, [], [], Closes.waiting [] [] tt, inl tt, tt, refl, (refl, (all_are 1, (refl, tt)), λ a i. elim i [ ]), refl)

pub forks_second : Split forks_start 2 (reduce forks_start (inl tt) 2 refl)
forks_second = (forks_shut, [], [], Closes.waiting [] [] tt, inl tt, tt, refl, (refl, (all_are 2, (refl, tt)), λ a i. elim i [ ]), refl)

-- The splits are reached by the keys [1] and [2].
pub forks_keys : ReachedBy forks 4 (1 ∷ []) (reduce forks_start (inl tt) 1 refl) × ReachedBy forks 4 (2 ∷ []) (reduce forks_start (inl tt) 2 refl)
unfolding clause_weight
forks_keys =
    let begun : ReachedBy forks 4 [] forks_start = ReachedBy.start (omega arith) in (
      ReachedBy.divided [] forks_start 1 (reduce forks_start (inl tt) 1 refl) begun forks_first (omega arith),
      ReachedBy.divided [] forks_start 2 (reduce forks_start (inl tt) 2 refl) begun forks_second (omega arith),
    )
