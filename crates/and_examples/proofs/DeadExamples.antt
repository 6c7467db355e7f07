-- Trees that are Dead, and candidates over the limit, tried on small programs.
use Rattle.std.proofs.Common.{ℕ, zero, suc, ◌≡◌, ◌+◌, ◌<◌, [], ◌∷◌, refl, sym, subst, ◌∙◌, inl, inr, true≢false, arith}
use Rattle.and_model.specs.Solutions.{Solvable, falsehood}
use Rattle.and_model.specs.Programs.{Of, clause_at, clause_weight}
use Rattle.and_model.specs.Closure.{Closes}
use Rattle.and_model.specs.Trees.{Open, IsLeftmost, call_of, reduce, equations, weight}
use Rattle.and_model.specs.Reached.{CandidateOf, Step, Steps, Shut, Dead, ReachedBy, Numbers}
use Rattle.and_model.specs.Limits.{at_goal, NoneAloneFits, OverLimit}
use Rattle.and_model.specs.Output.{OverLeft}
use Rattle.and_laws.proofs.Deciding.{of_bounds}
use Rattle.and_examples.specs.ReachedExamples.{early, early_start}
use Rattle.and_examples.specs.Texts.{own, whole, p, q}
use Rattle.and_examples.specs.DeadExamples.{hopeless, hopeless_start, circle_start, not_below_start}
use Rattle.and_examples.proofs.ReachedExamples.{all_are, early_third}
use Rattle.and_examples.proofs.Waiting.{only_waits, refuted_closes, never}
use Rattle.and_examples.proofs.Circle.{unsolved}

-- ---- p(1). p(2). q(2). ?- p(X), q(X). Clause 1 and clause 2 are candidates of p(X), and clause 3 of q(X).
first_fits : CandidateOf early_start [] (inl tt) 1
first_fits = (refl, (all_are 1, (refl, tt)), λ a i. elim i [ ])

second_fits : CandidateOf early_start [] (inl tt) 2
second_fits = (refl, (all_are 2, (refl, tt)), λ a i. elim i [ ])

third_fits : CandidateOf early_start [] (inr (inl tt)) 3
third_fits = (refl, (all_are 2, (refl, tt)), λ a i. elim i [ ])

lives : Dead early_start → ⊥
lives (es, gs, closed, inl none) = none (subst Solvable (sym (only_waits [] [] es gs tt closed).0) (all_are 1, tt))
lives (es, gs, closed, inr (inl u, none)) =
    none 1 (subst (λ ds. CandidateOf early_start ds (inl tt) 1) (sym (only_waits [] [] es gs tt closed).0) first_fits)
lives (es, gs, closed, inr (inr (inl u), none)) =
    none 3 (subst (λ ds. CandidateOf early_start ds (inr (inl tt)) 3) (sym (only_waits [] [] es gs tt closed).0) third_fits)
lives (es, gs, closed, inr (inr (inr n), none)) = elim n [ ]

one_alone_is_over : NoneAloneFits early 2 early_start []
unfolding clause_weight
one_alone_is_over (inl u) c k only =
    let one : 1 ≡ c = only 1 first_fits in
    let two : 2 ≡ c = only 2 second_fits in
    absurd (omega arith)
one_alone_is_over (inr (inl u)) c k only =
    subst (λ (d : ℕ). 2 < weight early_start + clause_weight (clause_at early d)) (only 3 third_fits) (omega arith)
one_alone_is_over (inr (inr n)) c k only = elim n [ ]

pub over : OverLimit early 2 (at_goal early_start (inr (inl tt)) 3)
unfolding clause_weight
over = (([], ReachedBy.start (omega arith)), lives, [], [], Closes.waiting [] [] tt, third_fits, inl early_third, omega arith, one_alone_is_over)

pub not_shut : Shut early_start → ⊥
not_shut (es, gs, closed, solvable, two) =
    let (c, d, apart, one, other) = two (inr (inl tt)) in
    let nothing : es ≡ [] = (only_waits [] [] es gs tt closed).0 in
    apart
    (early_third c (subst (λ ds. CandidateOf early_start ds (inr (inl tt)) c) nothing one)
    ∙ sym (early_third d (subst (λ ds. CandidateOf early_start ds (inr (inl tt)) d) nothing other)))

pub neither_of_two : (c : ℕ) → OverLimit early 2 (at_goal early_start (inl tt) c) → ⊥
neither_of_two c (reached, alive, es, gs, closed, fits, inr (shut, leftmost), heavy, none) = not_shut shut
neither_of_two c (reached, alive, es, gs, closed, fits, inl only, heavy, none) =
    let nothing : [] ≡ es = sym (only_waits [] [] es gs tt closed).0 in
    let one : 1 ≡ c = only 1 (subst (λ ds. CandidateOf early_start ds (inl tt) 1) nothing first_fits) in
    let two : 2 ≡ c = only 2 (subst (λ ds. CandidateOf early_start ds (inl tt) 2) nothing second_fits) in
    omega arith

pub left_over : OverLeft early 2 [] 1
unfolding clause_weight
left_over = inr (early_start, refl, omega arith, [], [], Closes.waiting [] [] tt, (all_are 1, tt), inl tt, tt, refl, omega arith)

-- The leftmost call is p(X), and clause 3 is of another predicate.
of_p : (o : Open early_start) → IsLeftmost early_start o → Of early (call_of early_start o) 3 → ⊥
of_p (inl u) leftmost of = true≢false (sym of)
of_p (inr o) leftmost of = elim leftmost [ ]

pub not_left_over : OverLeft early 2 [] 3 → ⊥
not_left_over (inl (empty, is, heavy)) = cc
not_left_over (inr (t, is, fits, es, gs, closed, solved, o, leftmost, of, heavier)) =
    let same : early_start ≡ t = cc in
    subst (λ u. (o : Open u) → IsLeftmost u o → Of early (call_of u o) 3 → ⊥) same of_p o leftmost of

-- ---- p(1). q(2). ?- p(X), q(3).
none_fits : (c : ℕ) → CandidateOf hopeless_start [] (inr (inl tt)) c → ⊥
none_fits zero k = true≢false (sym k.0)
none_fits (suc zero) k = true≢false (sym k.0)
none_fits (suc (suc zero)) k = let e = k.1.1.0 in cc
none_fits (suc (suc (suc c))) k = let b = (of_bounds hopeless (q (whole 3)) (suc (suc (suc c))) k.0).1 in omega arith

pub dead : Dead hopeless_start
dead = ([], [], Closes.waiting [] [] tt, inr (inr (inl tt), none_fits))

one_alone : (c : ℕ) → CandidateOf hopeless_start [] (inl tt) c → c ≡ 1
one_alone zero k = absurd (true≢false (sym k.0))
one_alone (suc zero) k = refl
one_alone (suc (suc zero)) k = absurd (true≢false (sym k.0))
one_alone (suc (suc (suc c))) k = let b = (of_bounds hopeless (p (own 0)) (suc (suc (suc c))) k.0).1 in absurd (omega arith)

pub one_candidate : CandidateOf hopeless_start [] (inl tt) 1 × ((c : ℕ) → CandidateOf hopeless_start [] (inl tt) c → c ≡ 1)
one_candidate = ((refl, (all_are 1, (refl, tt)), λ a i. elim i [ ]), one_alone)

pub none_over : (limit c : ℕ) (o : Open hopeless_start) → OverLimit hopeless limit (at_goal hopeless_start o c) → ⊥
none_over limit c o over = over.1 dead

pub steps_on : Step hopeless_start (reduce hopeless_start (inr (inl tt)) 2 refl)
steps_on = ([], [], Closes.waiting [] [] tt, inr (inl tt), 2, refl, refl, λ c k. absurd (none_fits c k))

-- ---- ?- X = f(X). and ?- X = 3, X < 3.
pub circle_dead : Dead circle_start
circle_dead = (equations circle_start, [], Closes.waiting (equations circle_start) [] tt, inl unsolved)

pub circle_fails : Numbers circle_start 0 1
circle_fails = Numbers.dead circle_start circle_start (Steps.none circle_start) circle_dead

pub not_below_dead : Dead not_below_start
not_below_dead = (falsehood ∷ equations not_below_start, [], refuted_closes, inl (λ s. never s.0 (s.1.0, tt)))
