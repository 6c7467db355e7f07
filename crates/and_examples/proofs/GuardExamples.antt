-- Comparisons in front of clauses, tried on three small programs.
use Rattle.std.proofs.Common.{ℕ, zero, suc, ◌≡◌, false, [], ◌∷◌, refl, sym, subst, ap, ◌∙◌, inl, inr, true≢false, arith, codes}
use Rattle.std.specs.Fmt.{digits}
use Rattle.and_model.specs.Terms.{Path, Terms, variable, none, more, Substitution, apply}
use Rattle.and_model.specs.Solutions.{Solves, MostGeneral}
use Rattle.and_model.specs.Arithmetic.{holds, less, greater, differs}
use Rattle.and_model.specs.Programs.{Arithmetic, compare, clause_at, clause_weight}
use Rattle.and_model.specs.Closure.{Closes, First, refutes}
use Rattle.and_model.specs.Candidates.{guard, In, Refuted}
use Rattle.and_model.specs.Reached.{CandidateOf, Step, Steps, Shut, Dead, Forks}
use Rattle.and_model.specs.Listing.{answer}
use Rattle.and_laws.proofs.Deciding.{of_bounds}
use Rattle.and_examples.specs.Ending.{CodeEnds, SearchForks}
use Rattle.and_examples.specs.Texts.{own, whole, p}
use Rattle.and_examples.proofs.Waiting.{only_waits}
use Rattle.and_examples.specs.GuardExamples.{inner, greatest, greatest_text, greatest_start, greatest_answer, taken, at_least_second, below_3, ending_text}
use Rattle.and_examples.specs.GuardExamples.{ending_start, all_kinds, atom, atom_text, atom_start}

-- ---- max(X,Y,X) :- X >= Y. max(X,Y,Y) :- X < Y. ?- max(3,5,M).
-- 3 >= 5 does not hold.
pub refuted : Refuted (taken 1) at_least_second
unfolding holds
refuted = (more (whole 3) (more (whole 5) none), (refl, λ s h. let e = h.0 in cc), refl)

pub first_is_none : CandidateOf greatest_start [] (inl tt) 1 → ⊥
first_is_none k = k.2 at_least_second (inl refl) refuted

-- 3 in the clause's first place, and 5 in all others
abbrev three_and_five : Substitution
three_and_five [] k = whole 5
three_and_five (i ∷ q) zero = whole 3
three_and_five (i ∷ q) (suc k) = whole 5

abbrev less_than_second : Arithmetic
less_than_second = compare less (inner 0) (inner 1)

-- 3 < 5 holds.
not_refuted : Refuted (taken 2) less_than_second → ⊥
unfolding holds
not_refuted (ts, known, fails) = true≢false (sym fails ∙ ap (refutes less_than_second) (sym (known.1 three_and_five (refl, tt))))

pub second_is_one : CandidateOf greatest_start [] (inl tt) 2
second_is_one = (refl, (three_and_five, (refl, tt)), guarded)
  where
    guarded : (a : Arithmetic) → In a (guard (0 ∷ []) (clause_at greatest_text 2).body) → Refuted (taken 2) a → ⊥
    guarded a (inl is) fails = not_refuted (subst (λ g. Refuted (taken 2) g) is fails)
    guarded a (inr i) fails = elim i [ ]

second_alone : (c : ℕ) → CandidateOf greatest_start [] (inl tt) c → c ≡ 2
second_alone zero k = absurd (true≢false (sym k.0))
second_alone (suc zero) k = absurd (first_is_none k)
second_alone (suc (suc zero)) k = refl
second_alone (suc (suc (suc c))) k =
    let b = (of_bounds greatest_text (greatest (whole 3) (whole 5) (own 0)) (suc (suc (suc c))) k.0).1 in absurd (omega arith)

pub step : Step greatest_start greatest_answer
step = ([], [], Closes.waiting [] [] tt, inl tt, 2, refl, refl, second_alone)

-- A Shut tree would have two candidates.
pub not_shut : Shut greatest_start → ⊥
not_shut (es, gs, closed, solvable, two) =
    let (c, d, apart, one, other) = two (inl tt) in
    let nothing : es ≡ [] = (only_waits [] [] es gs tt closed).0 in
    apart
    (second_alone c (subst (λ ds. CandidateOf greatest_start ds (inl tt) c) nothing one)
    ∙ sym (second_alone d (subst (λ ds. CandidateOf greatest_start ds (inl tt) d) nothing other)))

abbrev known : Terms
known = more (whole 3) (more (whole 5) none)

closed : Closes (taken 2) (less_than_second ∷ []) (taken 2) []
unfolding holds
closed =
    Closes.run (taken 2) (less_than_second ∷ []) less_than_second [] known (taken 2) [] (three_and_five, (refl, tt))
    (First.first less_than_second [])
    (refl, λ s h. let e = h.0 in cc) (Closes.waiting (taken 2) [] tt)

whole_shut : Shut greatest_answer
whole_shut = (taken 2, [], closed, (three_and_five, (refl, tt)), λ o. elim o [ ])

pub no_forks : SearchForks greatest_text []
no_forks =
    Forks.ended greatest_start greatest_answer []
    (Steps.more greatest_start greatest_start greatest_answer (Steps.none greatest_start) step)
    (inr (whole_shut, tt))

abbrev solution : Substitution
solution [] zero = whole 5
solution [] (suc k) = variable [] (suc k)
solution (zero ∷ []) zero = whole 3
solution (zero ∷ []) (suc zero) = whole 5
solution (zero ∷ []) (suc (suc k)) = variable (0 ∷ []) (suc (suc k))
solution (zero ∷ j ∷ r) k = variable (0 ∷ j ∷ r) k
solution (suc i ∷ r) k = variable (suc i ∷ r) k

general : MostGeneral solution (taken 2)
general = ((refl, tt), through)
  where
    through : (t : Substitution) → Solves t (taken 2) → (r : Path) (k : ℕ) → t r k ≡ apply t (solution r k)
    through t h [] zero = let e = h.0 in cc
    through t h [] (suc k) = refl
    through t h (zero ∷ []) zero = let e = h.0 in cc
    through t h (zero ∷ []) (suc zero) = let e = h.0 in cc
    through t h (zero ∷ []) (suc (suc k)) = refl
    through t h (zero ∷ j ∷ r) k = refl
    through t h (suc i ∷ r) k = refl

pub ends : CodeEnds greatest_text (2 ∷ []) (answer (codes "M = 5"))
unfolding digits
ends = (greatest_answer, refl, (tt, taken 2, [], closed, solution, general, refl))

-- ---- p(X) :- Y is X, X < 3. p(X) :- X < 3, Y is X. ?- p(5).
pub guards : (guard [] (clause_at ending_text 1).body ≡ []) × (guard [] (clause_at ending_text 2).body ≡ below_3 ∷ [])
guards = (refl, refl)

-- every variable is 5
abbrev fives : Substitution
fives q k = whole 5

pub unguarded : CandidateOf ending_start [] (inl tt) 1
unguarded = (refl, (fives, (refl, tt)), λ a i. elim i [ ])

-- 5 < 3 does not hold.
pub guarded : CandidateOf ending_start [] (inl tt) 2 → ⊥
unfolding holds
guarded k = k.2 (compare less (inner 0) (whole 3)) (inl refl) (more (whole 5) (more (whole 3) none), (refl, λ s h. let e = h.0 in cc), refl)

-- 1 + 2 + 2 and 1 + 3 + 4
pub weights : (clause_weight (clause_at ending_text 1) ≡ 5) × (clause_weight all_kinds ≡ 8)
unfolding clause_weight
weights = (refl, refl)

-- ---- p(X) :- X > a. p(X) :- X =\= a. ?- p(5).
pub differs_from_atom : holds differs (whole 5) atom ≡ false
unfolding holds
differs_from_atom = refl

pub not_above : CandidateOf atom_start [] (inl tt) 1 → ⊥
unfolding holds
not_above k = k.2 (compare greater (inner 0) atom) (inl refl) (more (whole 5) (more atom none), (refl, λ s h. let e = h.0 in cc), refl)

pub not_other : CandidateOf atom_start [] (inl tt) 2 → ⊥
unfolding holds
not_other k = k.2 (compare differs (inner 0) atom) (inl refl) (more (whole 5) (more atom none), (refl, λ s h. let e = h.0 in cc), refl)

none_of_them : (c : ℕ) → CandidateOf atom_start [] (inl tt) c → ⊥
none_of_them zero k = true≢false (sym k.0)
none_of_them (suc zero) k = not_above k
none_of_them (suc (suc zero)) k = not_other k
none_of_them (suc (suc (suc c))) k = let b = (of_bounds atom_text (p (whole 5)) (suc (suc (suc c))) k.0).1 in omega arith

pub dead : Dead atom_start
dead = ([], [], Closes.waiting [] [] tt, inr (inl tt, none_of_them))
