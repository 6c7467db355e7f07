-- A fork within a fork, tried on p(1). p(2). q(3). q(4). ?- p(X), q(Y).
use Rattle.std.proofs.Common.{ℕ, zero, suc, ◌≡◌, ◌⊎◌, List, [], ◌∷◌, refl, sym, inl, inr, true≢false, arith}
use Rattle.std.specs.Prelude.{AllPairs}
use Rattle.and_model.specs.Prefixes.{IsPrefix}
use Rattle.and_model.specs.Terms.{Substitution}
use Rattle.and_model.specs.Solutions.{Solves}
use Rattle.and_model.specs.Programs.{Of}
use Rattle.and_model.specs.Closure.{Closes}
use Rattle.and_model.specs.Trees.{QueryTree, IsWhole, Open, reduce, equations, arithmetics, decided}
use Rattle.and_model.specs.Reached.{CandidateOf, Shut, Split, Steps, Forks, ForksOfSplits}
use Rattle.and_laws.specs.CodeOrder.{Rises}
use Rattle.and_laws.proofs.Deciding.{of_bounds}
use Rattle.and_laws.proofs.ForkOrder.{forks_rise}
use Rattle.and_examples.specs.Ending.{SearchForks}
use Rattle.and_examples.specs.ReachedExamples.{p, q, x, y, forks, forks_start}
use Rattle.and_examples.specs.Texts.{whole}
use Rattle.and_examples.specs.ForksExamples.{fork, three_forks}
use Rattle.and_examples.proofs.ReachedExamples.{forks_shut, forks_first, forks_second}
use Rattle.and_examples.proofs.NumbersExamples.{two_clauses}

-- the query's X and Y stand for these numbers
abbrev giving : ℕ → ℕ → Substitution
giving m n q zero = whole m
giving m n q (suc k) = whole n

abbrev by_one : QueryTree forks
by_one = reduce forks_start (inl tt) 1 refl

abbrev by_two : QueryTree forks
by_two = reduce forks_start (inl tt) 2 refl

one_three : CandidateOf by_one (equations by_one) (inl tt) 3
one_three = (refl, (giving 1 3, (refl, (refl, tt))), λ a i. elim i [ ])

one_four : CandidateOf by_one (equations by_one) (inl tt) 4
one_four = (refl, (giving 1 4, (refl, (refl, tt))), λ a i. elim i [ ])

two_three : CandidateOf by_two (equations by_two) (inl tt) 3
two_three = (refl, (giving 2 3, (refl, (refl, tt))), λ a i. elim i [ ])

two_four : CandidateOf by_two (equations by_two) (inl tt) 4
two_four = (refl, (giving 2 4, (refl, (refl, tt))), λ a i. elim i [ ])

-- q(Y) has two candidates under either clause,
one_shut : Shut by_one
one_shut = (
  equations by_one,
  [],
  Closes.waiting (equations by_one) [] tt,
  (giving 1 3, (refl, tt)),
  elim [ inl u ↦ (3, 4, (λ e. cc), one_three, one_four) | inr o ↦ elim o [ ] ],
)

two_shut : Shut by_two
two_shut = (
  equations by_two,
  [],
  Closes.waiting (equations by_two) [] tt,
  (giving 2 3, (refl, tt)),
  elim [ inl u ↦ (3, 4, (λ e. cc), two_three, two_four) | inr o ↦ elim o [ ] ],
)

-- by which it is split,
split_one_three : Split by_one 3 (reduce by_one (inl tt) 3 refl)
split_one_three = (one_shut, equations by_one, [], Closes.waiting (equations by_one) [] tt, inl tt, tt, refl, one_three, refl)

split_one_four : Split by_one 4 (reduce by_one (inl tt) 4 refl)
split_one_four = (one_shut, equations by_one, [], Closes.waiting (equations by_one) [] tt, inl tt, tt, refl, one_four, refl)

split_two_three : Split by_two 3 (reduce by_two (inl tt) 3 refl)
split_two_three = (two_shut, equations by_two, [], Closes.waiting (equations by_two) [] tt, inl tt, tt, refl, two_three, refl)

split_two_four : Split by_two 4 (reduce by_two (inl tt) 4 refl)
split_two_four = (two_shut, equations by_two, [], Closes.waiting (equations by_two) [] tt, inl tt, tt, refl, two_four, refl)

-- and by no other.
of_p : (c : ℕ) → Of forks (p x) c → (c ≡ 1) ⊎ (c ≡ 2)
of_p zero h = absurd (true≢false (sym h))
of_p (suc zero) h = inl refl
of_p (suc (suc zero)) h = inr refl
of_p (suc (suc (suc zero))) h = absurd (true≢false (sym h))
of_p (suc (suc (suc (suc zero)))) h = absurd (true≢false (sym h))
of_p (suc (suc (suc (suc (suc c))))) h = let b = (of_bounds forks (p x) (suc (suc (suc (suc (suc c))))) h).1 in absurd (omega arith)

of_q : (c : ℕ) → Of forks (q y) c → (c ≡ 3) ⊎ (c ≡ 4)
of_q zero h = absurd (true≢false (sym h))
of_q (suc zero) h = absurd (true≢false (sym h))
of_q (suc (suc zero)) h = absurd (true≢false (sym h))
of_q (suc (suc (suc zero))) h = inl refl
of_q (suc (suc (suc (suc zero)))) h = inr refl
of_q (suc (suc (suc (suc (suc c))))) h = let b = (of_bounds forks (q y) (suc (suc (suc (suc (suc c))))) h).1 in absurd (omega arith)

of_start : (c : ℕ) (next : QueryTree forks) → Split forks_start c next → (c ≡ 1) ⊎ (c ≡ 2)
of_start c next (shut, es, gs, z, inl u, m, h, k, e) = of_p c h
of_start c next (shut, es, gs, z, inr o, m, h, k, e) = elim m [ ]

of_one : (c : ℕ) (next : QueryTree forks) → Split by_one c next → (c ≡ 3) ⊎ (c ≡ 4)
of_one c next (shut, es, gs, z, inl u, m, h, k, e) = of_q c h
of_one c next (shut, es, gs, z, inr o, m, h, k, e) = elim m [ ]

of_two : (c : ℕ) (next : QueryTree forks) → Split by_two c next → (c ≡ 3) ⊎ (c ≡ 4)
of_two c next (shut, es, gs, z, inl u, m, h, k, e) = of_q c h
of_two c next (shut, es, gs, z, inr o, m, h, k, e) = elim m [ ]

-- Nothing is left open then.
whole_shut : (t : QueryTree forks) (m n : ℕ) → Closes (equations t) (arithmetics t) (equations t) []
    → Solves (giving m n) (equations t) → (Open t → ⊥) → Shut t
whole_shut t m n closed solves none_open = (equations t, [], closed, (giving m n, solves), λ o. absurd (none_open o))

ended : (t : QueryTree forks) (key : List ℕ) → Shut t → IsWhole t → Forks t key []
ended t key shut is_whole = Forks.ended t t key (Steps.none t) (inr (shut, is_whole))

forks_one : Forks by_one (1 ∷ []) (fork (1 ∷ []) (3 ∷ 4 ∷ []) ∷ [])
forks_one =
    let three = reduce by_one (inl tt) 3 refl in
    let four = reduce by_one (inl tt) 4 refl in
    let ends_three : Forks three (1 ∷ 3 ∷ []) [] = ended three (1 ∷ 3 ∷ [])
    (whole_shut three 1 3 (Closes.waiting (equations three) [] tt) (refl, (refl, tt)) (λ o. o)) tt in
    let ends_four : Forks four (1 ∷ 4 ∷ []) [] = ended four (1 ∷ 4 ∷ [])
    (whole_shut four 1 4 (Closes.waiting (equations four) [] tt) (refl, (refl, tt)) (λ o. o)) tt in
    Forks.forked by_one by_one (1 ∷ []) (3 ∷ 4 ∷ []) [] (Steps.none by_one) one_shut (inl tt)
    (two_clauses by_one 3 4 three four (omega arith) split_one_three split_one_four of_one)
    (ForksOfSplits.more by_one three 3 (4 ∷ []) [] [] split_one_three ends_three
    (ForksOfSplits.more by_one four 4 [] [] [] split_one_four ends_four (ForksOfSplits.none by_one)))

forks_two : Forks by_two (2 ∷ []) (fork (2 ∷ []) (3 ∷ 4 ∷ []) ∷ [])
forks_two =
    let three = reduce by_two (inl tt) 3 refl in
    let four = reduce by_two (inl tt) 4 refl in
    let ends_three : Forks three (2 ∷ 3 ∷ []) [] = ended three (2 ∷ 3 ∷ [])
    (whole_shut three 2 3 (Closes.waiting (equations three) [] tt) (refl, (refl, tt)) (λ o. o)) tt in
    let ends_four : Forks four (2 ∷ 4 ∷ []) [] = ended four (2 ∷ 4 ∷ [])
    (whole_shut four 2 4 (Closes.waiting (equations four) [] tt) (refl, (refl, tt)) (λ o. o)) tt in
    Forks.forked by_two by_two (2 ∷ []) (3 ∷ 4 ∷ []) [] (Steps.none by_two) two_shut (inl tt)
    (two_clauses by_two 3 4 three four (omega arith) split_two_three split_two_four of_two)
    (ForksOfSplits.more by_two three 3 (4 ∷ []) [] [] split_two_three ends_three
    (ForksOfSplits.more by_two four 4 [] [] [] split_two_four ends_four (ForksOfSplits.none by_two)))

pub in_order : SearchForks forks three_forks
in_order =
    Forks.forked forks_start forks_start [] (1 ∷ 2 ∷ []) (fork (1 ∷ []) (3 ∷ 4 ∷ []) ∷ fork (2 ∷ []) (3 ∷ 4 ∷ []) ∷ [])
    (Steps.none forks_start) forks_shut (inl tt)
    (two_clauses forks_start 1 2 by_one by_two (omega arith) forks_first forks_second of_start)
    (ForksOfSplits.more forks_start by_one 1 (2 ∷ []) (fork (1 ∷ []) (3 ∷ 4 ∷ []) ∷ []) (fork (2 ∷ []) (3 ∷ 4 ∷ []) ∷ [])
    forks_first forks_one
    (ForksOfSplits.more forks_start by_two 2 [] (fork (2 ∷ []) (3 ∷ 4 ∷ []) ∷ []) []
    forks_second forks_two (ForksOfSplits.none forks_start)))

-- The law that forks rise by their keys is met here.
pub rising : IsPrefix [] (decided forks_start) × AllPairs Rises three_forks
rising = (([], refl), (forks_rise forks_start [] three_forks ([], refl) in_order).1)
