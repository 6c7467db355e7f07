-- A trial of the limit. Expected values are worked out by hand.
use Rattle.std.proofs.Common.{ℕ, ◌≡◌, ◌-◌, [], ◌∷◌, refl, inl, inr, arith, zero, suc, length}
use Rattle.and_model.specs.Terms.{Term, variable, Substitution}
use Rattle.and_model.specs.Programs.{clause_weight}
use Rattle.and_model.specs.Closure.{Closes}
use Rattle.and_model.specs.Trees.{equations, weight}
use Rattle.and_model.specs.Reached.{CandidateOf, Shut, Dead, Split, ReachedBy}
use Rattle.and_model.specs.Limits.{at_goal, NoneAloneFits, OverLimit}
use Rattle.and_laws.proofs.Order.{below_self}
use Rattle.and_laws.proofs.Agreeing.{dead_below_shut}
use Rattle.and_examples.specs.ReachedExamples.{x}
use Rattle.and_examples.specs.LimitExamples.{nat, z, s, naturals, at_least_0, at_least_1, at_least_2}

-- the variables N of the clauses at the paths [0] and [0, 0]
abbrev n0 : Term
n0 = variable (0 ∷ []) 0

abbrev n1 : Term
n1 = variable (0 ∷ 0 ∷ []) 0

at_least_2_equations : equations at_least_2 ≡ (nat x, nat (s n0)) ∷ (nat n0, nat (s n1)) ∷ []
at_least_2_equations = refl

-- the substitution that gives the query's X, and N at each deeper path, the term with so many s more than t
abbrev so_many : Term → ℕ → Term
so_many t zero = t
so_many t (suc n) = s (so_many t n)

-- the variable at a path of length n stands for s^(k - n) of z
abbrev down_from : ℕ → Substitution
down_from k r n = so_many z (k - length r)

-- Each of the three trees has one open goal with two candidates,
pub zero_0 : CandidateOf at_least_0 [] (inl tt) 1
zero_0 = (refl, (down_from 0, (refl, tt)), λ a i. elim i [ ])

pub more_0 : CandidateOf at_least_0 [] (inl tt) 2
more_0 = (refl, (down_from 1, (refl, tt)), λ a i. elim i [ ])

zero_1 : CandidateOf at_least_1 (equations at_least_1) (inl tt) 1
zero_1 = (refl, (down_from 1, (refl, (refl, tt))), λ a i. elim i [ ])

more_1 : CandidateOf at_least_1 (equations at_least_1) (inl tt) 2
more_1 = (refl, (down_from 2, (refl, (refl, tt))), λ a i. elim i [ ])

pub zero_2 : CandidateOf at_least_2 (equations at_least_2) (inl tt) 1
zero_2 = (refl, (down_from 2, (refl, (refl, (refl, tt)))), λ a i. elim i [ ])

more_2 : CandidateOf at_least_2 (equations at_least_2) (inl tt) 2
more_2 = (refl, (down_from 3, (refl, (refl, (refl, tt)))), λ a i. elim i [ ])

-- so all are Shut,
pub shut_0 : Shut at_least_0
shut_0 = ([], [], Closes.waiting [] [] tt, (down_from 0, tt), elim [ inl u ↦ (1, 2, (λ e. cc), zero_0, more_0) | inr o ↦ elim o [ ] ])

shut_1 : Shut at_least_1
shut_1 = (
  equations at_least_1,
  [],
  Closes.waiting (equations at_least_1) [] tt,
  (down_from 1, (refl, tt)),
  elim [ inl u ↦ (1, 2, (λ e. cc), zero_1, more_1) | inr o ↦ elim o [ ] ],
)

shut_2 : Shut at_least_2
shut_2 = (
  equations at_least_2,
  [],
  Closes.waiting (equations at_least_2) [] tt,
  (down_from 2, (refl, (refl, tt))),
  elim [ inl u ↦ (1, 2, (λ e. cc), zero_2, more_2) | inr o ↦ elim o [ ] ],
)

-- and the last is reached by two Splits.
split_0 : Split at_least_0 2 at_least_1
split_0 = (shut_0, [], [], Closes.waiting [] [] tt, inl tt, tt, refl, more_0, refl)

split_1 : Split at_least_1 2 at_least_2
split_1 = (shut_1, equations at_least_1, [], Closes.waiting (equations at_least_1) [] tt, inl tt, tt, refl, more_1, refl)

pub at_least_2_weighs : weight at_least_2 ≡ 6
unfolding clause_weight
at_least_2_weighs = refl

pub at_least_2_reached : ReachedBy naturals 6 (2 ∷ 2 ∷ []) at_least_2
unfolding clause_weight
at_least_2_reached =
    ReachedBy.divided (2 ∷ []) at_least_1 2 at_least_2
    (ReachedBy.divided [] at_least_0 2 at_least_1 (ReachedBy.start (omega arith)) split_0 (omega arith)) split_1 (omega arith)

pub at_least_2_lives : Dead at_least_2 → ⊥
at_least_2_lives d = dead_below_shut at_least_2 at_least_2 (below_self at_least_2) d shut_2

none_alone_fits : NoneAloneFits naturals 6 at_least_2 (equations at_least_2)
none_alone_fits (inl u) c k only =
    let one : 1 ≡ c = only 1 zero_2 in
    let two : 2 ≡ c = only 2 more_2 in
    absurd (omega arith)
none_alone_fits (inr o) c k only = elim o [ ]

-- There the clause nat(z) is over the limit 6.
pub over_six : OverLimit naturals 6 (at_goal at_least_2 (inl tt) 1)
unfolding clause_weight
over_six = (
  (2 ∷ 2 ∷ [], at_least_2_reached),
  at_least_2_lives,
  equations at_least_2,
  [],
  Closes.waiting (equations at_least_2) [] tt,
  zero_2,
  inr (shut_2, tt),
  omega arith,
  none_alone_fits,
)
