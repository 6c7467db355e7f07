-- Trials of the numbers of forks and failures. Expected values are worked out by hand.
use Rattle.std.proofs.Common.{ℕ, ◌≡◌, ◌≢◌, ◌<◌, List, [], ◌∷◌, refl, sym, subst, inl, inr, ◌⊎◌, true≢false, arith, zero, suc, codes, length, get_or, Contains}
use Rattle.std.proofs.lemmas.List.Elements.{All-cons}
use Rattle.std.proofs.lemmas.List.Kept.{AllPairs-cons}
use Rattle.std.specs.Fmt.{digits}
use Rattle.and_model.specs.Listing.{Ends, answer, Entry}
use Rattle.and_model.specs.Terms.{Path, Term, Substitution, apply}
use Rattle.and_model.specs.Solutions.{Solves, MostGeneral}
use Rattle.and_model.specs.Programs.{Program, clause_weight, Of}
use Rattle.and_model.specs.Closure.{Closes}
use Rattle.and_model.specs.Trees.{QueryTree, Open, call_of, reduce, equations}
use Rattle.and_model.specs.Reached.{CandidateOf, Step, Shut, Dead, Split, Steps, SplitClauses, Numbers, NumbersOfSplits}
use Rattle.and_laws.proofs.Deciding.{of_bounds}
use Rattle.and_laws.proofs.Pairwise.{all_none, all_pairs_none}
use Rattle.and_laws.proofs.Ordered.{contains_first, contains_more, contains_none, contains_cases}
use Rattle.and_laws.specs.Explorations.{Explores, ExploresSplits, stepped, dead, ended, forked}
use Rattle.and_examples.specs.ReachedExamples.{p, q, x, one, two}
use Rattle.and_examples.proofs.ReachedExamples.{x_is_two, all_are}
use Rattle.and_examples.specs.NumbersExamples.{fails, fails_start, nil, cell, splits, splits_0}

fails_two : (o : Open fails_start) → (c : ℕ) × (d : ℕ) × (c ≢ d) × CandidateOf fails_start [] o c × CandidateOf fails_start [] o d
fails_two (inl u) = (1, 2, (λ e. cc), (refl, (all_are 1, (refl, tt)), λ a i. elim i [ ]), (refl, (all_are 2, (refl, tt)), λ a i. elim i [ ]))
fails_two (inr (inl u)) = (3, 4, (λ e. cc), (refl, (all_are 2, (refl, tt)), λ a i. elim i [ ]), (refl, (all_are 3, (refl, tt)), λ a i. elim i [ ]))
fails_two (inr (inr n)) = elim n [ ]

fails_shut : Shut fails_start
fails_shut = ([], [], Closes.waiting [] [] tt, (all_are 1, tt), fails_two)

abbrev pub fails_one : QueryTree fails
fails_one = reduce fails_start (inl tt) 1 refl

abbrev pub fails_other : QueryTree fails
fails_other = reduce fails_start (inl tt) 2 refl

pub fails_first : Split fails_start 1 fails_one
fails_first = (fails_shut, [], [], Closes.waiting [] [] tt, inl tt, tt, refl, (refl, (all_are 1, (refl, tt)), λ a i. elim i [ ]), refl)

pub fails_second : Split fails_start 2 fails_other
fails_second = (fails_shut, [], [], Closes.waiting [] [] tt, inl tt, tt, refl, (refl, (all_are 2, (refl, tt)), λ a i. elim i [ ]), refl)

-- only these two
fails_clauses : (c : ℕ) (next : QueryTree fails) → Split fails_start c next → (c ≡ 1) ⊎ (c ≡ 2)
fails_clauses c next (shut, es, gs, z, inl u, m, h, k, e) = named c h
  where
    named : (c : ℕ) → Of fails (p x) c → (c ≡ 1) ⊎ (c ≡ 2)
    named zero h = absurd (true≢false (sym h))
    named (suc zero) h = inl refl
    named (suc (suc zero)) h = inr refl
    named (suc (suc (suc zero))) h = absurd (true≢false (sym h))
    named (suc (suc (suc (suc zero)))) h = absurd (true≢false (sym h))
    named (suc (suc (suc (suc (suc d))))) h = let b = (of_bounds fails (p x) (suc (suc (suc (suc (suc d))))) h).1 in absurd (omega arith)
fails_clauses c next (shut, es, gs, z, inr o, m, h, k, e) = elim m [ ]

-- The first split is Dead: with X = 1 no q(X) is left.
fails_none : (c : ℕ) → CandidateOf fails_one ((p x, p one) ∷ []) (inl tt) c → ⊥
fails_none zero k = true≢false (sym k.0)
fails_none (suc zero) k = true≢false (sym k.0)
fails_none (suc (suc zero)) k = true≢false (sym k.0)
fails_none (suc (suc (suc zero))) k = let a = k.1.1.0 in let b = k.1.1.1.0 in cc
fails_none (suc (suc (suc (suc zero)))) k = let a = k.1.1.0 in let b = k.1.1.1.0 in cc
fails_none (suc (suc (suc (suc (suc d))))) k = let b = (of_bounds fails (q x) (suc (suc (suc (suc (suc d))))) k.0).1 in absurd (omega arith)

pub fails_dead : Dead fails_one
fails_dead = (equations fails_one, [], Closes.waiting (equations fails_one) [] tt, inr (inl tt, fails_none))

-- The second goes on by clause 3 alone, and ends.
fails_third : (d : ℕ) → CandidateOf fails_other ((p x, p two) ∷ []) (inl tt) d → d ≡ 3
fails_third zero k = absurd (true≢false (sym k.0))
fails_third (suc zero) k = absurd (true≢false (sym k.0))
fails_third (suc (suc zero)) k = absurd (true≢false (sym k.0))
fails_third (suc (suc (suc zero))) k = refl
fails_third (suc (suc (suc (suc zero)))) k = let a = k.1.1.0 in let b = k.1.1.1.0 in absurd (cc)
fails_third (suc (suc (suc (suc (suc d))))) k = let b = (of_bounds fails (q x) (suc (suc (suc (suc (suc d))))) k.0).1 in absurd (omega arith)

abbrev pub fails_answer : QueryTree fails
fails_answer = reduce fails_other (inl tt) 3 refl

pub fails_step : Step fails_other fails_answer
fails_step = (equations fails_other, [], Closes.waiting (equations fails_other) [] tt, inl tt, 3, refl, refl, fails_third)

pub fails_ended : Shut fails_answer
fails_ended = (equations fails_answer, [], Closes.waiting (equations fails_answer) [] tt, (all_are 2, (refl, (refl, tt))), λ o. elim o [ ])

-- a tree that is split by two clauses and no others
pub two_clauses : {P : Program} (t : QueryTree P) (c d : ℕ) (u v : QueryTree P) → c < d → Split t c u → Split t d v
    → ((e : ℕ) (next : QueryTree P) → Split t e next → (e ≡ c) ⊎ (e ≡ d)) → SplitClauses t (c ∷ d ∷ [])
two_clauses {P} t c d u v less a b only = (
  AllPairs-cons (λ m n. m < n) c (d ∷ []) (All-cons (λ n. c < n) d [] less (all_none (λ n. c < n)))
      (AllPairs-cons (λ m n. m < n) d [] (all_none (λ n. d < n)) (all_pairs_none (λ m n. m < n))),
  λ e. (
    has e,
    λ s. elim (only e s.0 s.1) [
      | inl i ↦ subst (λ n. Contains (c ∷ d ∷ []) n) (sym i) (contains_first c (d ∷ []))
      | inr i ↦ subst (λ n. Contains (c ∷ d ∷ []) n) (sym i) (contains_more c d (d ∷ []) (contains_first d []))
    ],
  ),
)
  where
    has : (e : ℕ) → Contains (c ∷ d ∷ []) e → (next : QueryTree P) × Split t e next
    has e i = elim (contains_cases c e (d ∷ []) i) [
      | inl h ↦ (u, subst (λ n. Split t n u) (sym h) a)
      | inr h ↦ elim (contains_cases d e [] h) [ inl k ↦ (v, subst (λ n. Split t n v) (sym k) b) | inr k ↦ absurd (contains_none e k) ]
    ]

pub fails_numbers : Numbers fails_start 1 1
fails_numbers =
    let nothing : NumbersOfSplits fails_start [] 0 0 = NumbersOfSplits.none fails_start in
    let ends : Numbers fails_other 0 0 =
    Numbers.whole fails_other fails_answer (Steps.more fails_other fails_other fails_answer (Steps.none fails_other) fails_step) fails_ended tt in
    let failed : Numbers fails_one 0 1 = Numbers.dead fails_one fails_one (Steps.none fails_one) fails_dead in
    Numbers.forked fails_start fails_start (1 ∷ 2 ∷ []) 0 1 (Steps.none fails_start) fails_shut (inl tt)
    (two_clauses fails_start 1 2 fails_one fails_other (omega arith) fails_first fails_second fails_clauses)
    (NumbersOfSplits.more fails_start fails_one 1 (2 ∷ []) 0 1 0 0 fails_first failed
    (NumbersOfSplits.more fails_start fails_other 2 [] 0 0 0 0 fails_second ends nothing))

-- An exploration finds the one answer, X = 2.
fails_general : MostGeneral x_is_two (equations fails_answer)
fails_general = ((refl, (refl, tt)), λ t h r k. goes t h r k)
  where
    goes : (t : Substitution) → Solves t (equations fails_answer) → (r : Path) (k : ℕ) → t r k ≡ apply t (x_is_two r k)
    goes t h [] zero = let e = h.0 in cc
    goes t h [] (suc k) = refl
    goes t h (i ∷ r) k = refl

fails_ends : Ends fails_answer (answer (codes "X = 2"))
unfolding digits
fails_ends = (tt, equations fails_answer, [], Closes.waiting (equations fails_answer) [] tt, x_is_two, fails_general, refl)

pub fails_explored : Explores fails 4 fails_start (record { code = 2 ∷ 3 ∷ []; outcome = answer (codes "X = 2") } ∷ [])
unfolding clause_weight
fails_explored =
    let entry : Entry = record { code = 2 ∷ 3 ∷ []; outcome = answer (codes "X = 2") } in
    let found : Explores fails 4 fails_other (entry ∷ []) =
    stepped fails_other fails_answer (entry ∷ []) fails_step (ended fails_answer (answer (codes "X = 2")) (omega arith) fails_ends) in
    forked fails_start (1 ∷ 2 ∷ []) (entry ∷ []) fails_shut (inl tt)
    (AllPairs-cons (λ m n. m ≢ n) 1 (2 ∷ []) (All-cons (λ n. 1 ≢ n) 2 [] (λ e. cc) (all_none (λ n. 1 ≢ n)))
    (AllPairs-cons (λ m n. m ≢ n) 2 [] (all_none (λ n. 2 ≢ n)) (all_pairs_none (λ m n. m ≢ n))))
    (two_clauses fails_start 1 2 fails_one fails_other (omega arith) fails_first fails_second fails_clauses).1
    (ExploresSplits.more fails_start fails_one 1 (2 ∷ []) [] (entry ∷ []) fails_first (dead fails_one fails_dead)
    (ExploresSplits.more fails_start fails_other 2 [] (entry ∷ []) [] fails_second found (ExploresSplits.none fails_start)))

-- a clause of the query's predicate is the first or the second
splits_named : (g : Term) (c : ℕ) → Of splits g c → (c ≡ 1) ⊎ (c ≡ 2)
splits_named g zero h = absurd (let b = (of_bounds splits g zero h).0 in omega arith)
splits_named g (suc zero) h = inl refl
splits_named g (suc (suc zero)) h = inr refl
splits_named g (suc (suc (suc d))) h = let b = (of_bounds splits g (suc (suc (suc d))) h).1 in absurd (omega arith)

-- the frames of a branch of the proof, by the lengths of their paths, and in each the terms of its variables
abbrev framed_by : List (List Term) → Substitution
framed_by frames r k = get_or (get_or frames (length r) []) k nil

-- the terms of the second clause's variables H, T, L and R
abbrev four : Term → Term → Term → Term → List Term
four h t l r = h ∷ t ∷ l ∷ r ∷ []

abbrev one_two : Term
one_two = cell one (cell two nil)

-- X = [], Y = [1,2]
abbrev first_answer : Substitution
first_answer = framed_by ((nil ∷ one_two ∷ []) ∷ (one_two ∷ []) ∷ [])

-- X = [1], Y = [2]
abbrev second_answer : Substitution
second_answer = framed_by ((cell one nil ∷ cell two nil ∷ []) ∷ four one nil (cell two nil) (cell two nil) ∷ (cell two nil ∷ []) ∷ [])

-- X = [1,2], Y = []
abbrev third_answer : Substitution
third_answer = framed_by ((one_two ∷ nil ∷ []) ∷ four one (cell two nil) nil (cell two nil) ∷ four two nil nil nil ∷ (nil ∷ []) ∷ [])

splits_0_first : CandidateOf splits_0 [] (inl tt) 1
splits_0_first = (refl, (first_answer, (refl, tt)), λ a i. elim i [ ])

splits_0_second : CandidateOf splits_0 [] (inl tt) 2
splits_0_second = (refl, (second_answer, (refl, tt)), λ a i. elim i [ ])

splits_0_shut : Shut splits_0
splits_0_shut = ([], [], Closes.waiting [] [] tt, (framed_by [], tt), elim [ inl u ↦ (1, 2, (λ e. cc), splits_0_first, splits_0_second) | inr o ↦ elim o [ ] ])

abbrev ended_0 : QueryTree splits
ended_0 = reduce splits_0 (inl tt) 1 refl

abbrev splits_1 : QueryTree splits
splits_1 = reduce splits_0 (inl tt) 2 refl

splits_1_first : CandidateOf splits_1 (equations splits_1) (inl tt) 1
splits_1_first = (refl, (second_answer, (refl, (refl, tt))), λ a i. elim i [ ])

splits_1_second : CandidateOf splits_1 (equations splits_1) (inl tt) 2
splits_1_second = (refl, (third_answer, (refl, (refl, tt))), λ a i. elim i [ ])

splits_1_shut : Shut splits_1
splits_1_shut = (
  equations splits_1,
  [],
  Closes.waiting (equations splits_1) [] tt,
  (third_answer, (refl, tt)),
  elim [ inl u ↦ (1, 2, (λ e. cc), splits_1_first, splits_1_second) | inr o ↦ elim o [ ] ],
)

abbrev ended_1 : QueryTree splits
ended_1 = reduce splits_1 (inl tt) 1 refl

abbrev splits_2 : QueryTree splits
splits_2 = reduce splits_1 (inl tt) 2 refl

-- The last step is determinate: its third argument is [], and the second clause wants a cell.
splits_2_not_second : CandidateOf splits_2 (equations splits_2) (inl tt) 2 → ⊥
splits_2_not_second k = let a = k.1.1.0 in let b = k.1.1.1.0 in let c = k.1.1.1.1.0 in cc

splits_2_only : (d : ℕ) → CandidateOf splits_2 (equations splits_2) (inl tt) d → d ≡ 1
splits_2_only d k = elim (splits_named (call_of splits_2 (inl tt)) d k.0) [
  | inl e ↦ e
  | inr e ↦ absurd (splits_2_not_second (subst (λ c. CandidateOf splits_2 (equations splits_2) (inl tt) c) e k))
]

abbrev ended_2 : QueryTree splits
ended_2 = reduce splits_2 (inl tt) 1 refl

splits_2_step : Step splits_2 ended_2
splits_2_step = (equations splits_2, [], Closes.waiting (equations splits_2) [] tt, inl tt, 1, refl, refl, splits_2_only)

-- the three proofs are whole and Shut
ended_0_shut : Shut ended_0
ended_0_shut = (equations ended_0, [], Closes.waiting (equations ended_0) [] tt, (first_answer, (refl, tt)), λ o. elim o [ ])

ended_1_shut : Shut ended_1
ended_1_shut = (equations ended_1, [], Closes.waiting (equations ended_1) [] tt, (second_answer, (refl, (refl, tt))), λ o. elim o [ ])

ended_2_shut : Shut ended_2
ended_2_shut = (equations ended_2, [], Closes.waiting (equations ended_2) [] tt, (third_answer, (refl, (refl, (refl, tt)))), λ o. elim o [ ])

splits_0_by_first : Split splits_0 1 ended_0
splits_0_by_first = (splits_0_shut, [], [], Closes.waiting [] [] tt, inl tt, tt, refl, splits_0_first, refl)

splits_0_by_second : Split splits_0 2 splits_1
splits_0_by_second = (splits_0_shut, [], [], Closes.waiting [] [] tt, inl tt, tt, refl, splits_0_second, refl)

splits_1_by_first : Split splits_1 1 ended_1
splits_1_by_first = (splits_1_shut, equations splits_1, [], Closes.waiting (equations splits_1) [] tt, inl tt, tt, refl, splits_1_first, refl)

splits_1_by_second : Split splits_1 2 splits_2
splits_1_by_second = (splits_1_shut, equations splits_1, [], Closes.waiting (equations splits_1) [] tt, inl tt, tt, refl, splits_1_second, refl)

pub splits_numbers : Numbers splits_0 2 0
splits_numbers =
    let ends_0 : Numbers ended_0 0 0 = Numbers.whole ended_0 ended_0 (Steps.none ended_0) ended_0_shut tt in
    let ends_1 : Numbers ended_1 0 0 = Numbers.whole ended_1 ended_1 (Steps.none ended_1) ended_1_shut tt in
    let ends_2 : Numbers splits_2 0 0 =
    Numbers.whole splits_2 ended_2 (Steps.more splits_2 splits_2 ended_2 (Steps.none splits_2) splits_2_step) ended_2_shut tt in
    let by_two : (t : QueryTree splits) → (c : ℕ) (next : QueryTree splits) → Split t c next → (c ≡ 1) ⊎ (c ≡ 2) =
    λ t c next sp. splits_named (call_of t sp.4) c sp.6 in
    let later : Numbers splits_1 1 0 =
    Numbers.forked splits_1 splits_1 (1 ∷ 2 ∷ []) 0 0 (Steps.none splits_1) splits_1_shut (inl tt)
    (two_clauses splits_1 1 2 ended_1 splits_2 (omega arith) splits_1_by_first splits_1_by_second (by_two splits_1))
    (NumbersOfSplits.more splits_1 ended_1 1 (2 ∷ []) 0 0 0 0 splits_1_by_first ends_1
    (NumbersOfSplits.more splits_1 splits_2 2 [] 0 0 0 0 splits_1_by_second ends_2 (NumbersOfSplits.none splits_1))) in
    Numbers.forked splits_0 splits_0 (1 ∷ 2 ∷ []) 1 0 (Steps.none splits_0) splits_0_shut (inl tt)
    (two_clauses splits_0 1 2 ended_0 splits_1 (omega arith) splits_0_by_first splits_0_by_second (by_two splits_0))
    (NumbersOfSplits.more splits_0 ended_0 1 (2 ∷ []) 0 0 1 0 splits_0_by_first ends_0
    (NumbersOfSplits.more splits_0 splits_1 2 [] 1 0 0 0 splits_0_by_second later (NumbersOfSplits.none splits_0)))
