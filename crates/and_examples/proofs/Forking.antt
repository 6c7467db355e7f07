-- The one fork of the example equal-answers: p(a). p(a). ?- p(X).
use Rattle.std.proofs.Common.{ℕ, zero, suc, ◌≡◌, ◌<◌, ◌≢◌, [], ◌∷◌, refl, sym, subst, inl, inr, ◌⊎◌, true≢false, arith, Contains}
use Rattle.std.proofs.lemmas.List.Elements.{All-cons}
use Rattle.std.proofs.lemmas.List.Kept.{AllPairs-cons}
use Rattle.and_model.specs.Terms.{compound, none, Substitution}
use Rattle.and_model.specs.Programs.{Of, own_name}
use Rattle.and_model.specs.Closure.{Closes}
use Rattle.and_model.specs.Trees.{QueryTree, query_agenda, blank, Open, reduce, equations}
use Rattle.and_model.specs.Reached.{CandidateOf, Shut, Split, Steps, SplitClauses, Forks, ForksOfSplits}
use Rattle.and_laws.proofs.Deciding.{of_bounds}
use Rattle.and_laws.proofs.Pairwise.{all_none, all_pairs_none}
use Rattle.and_laws.proofs.Ordered.{contains_first, contains_more, contains_none, contains_cases}
use Rattle.and_examples.specs.Ending.{SearchForks}
use Rattle.and_examples.specs.Texts.{own, p, equal_text}

abbrev start : QueryTree equal_text
start = blank (query_agenda equal_text)

abbrev all_are_a : Substitution
all_are_a = λ r k. compound (own_name 1) none

both_fit : (o : Open start) → (c : ℕ) × (d : ℕ) × (c ≢ d) × CandidateOf start [] o c × CandidateOf start [] o d
both_fit (inl u) = (1, 2, (λ e. cc), (refl, (all_are_a, (refl, tt)), λ a i. elim i [ ]), (refl, (all_are_a, (refl, tt)), λ a i. elim i [ ]))
both_fit (inr n) = elim n [ ]

shut : Shut start
shut = ([], [], Closes.waiting [] [] tt, (all_are_a, tt), both_fit)

abbrev taken : (c : ℕ) → Of equal_text (p (own 0)) c → QueryTree equal_text
taken c h = reduce start (inl tt) c h

split_first : Split start 1 (taken 1 refl)
split_first = (shut, [], [], Closes.waiting [] [] tt, inl tt, tt, refl, (refl, (all_are_a, (refl, tt)), λ a i. elim i [ ]), refl)

split_second : Split start 2 (taken 2 refl)
split_second = (shut, [], [], Closes.waiting [] [] tt, inl tt, tt, refl, (refl, (all_are_a, (refl, tt)), λ a i. elim i [ ]), refl)

only : (c : ℕ) (next : QueryTree equal_text) → Split start c next → (c ≡ 1) ⊎ (c ≡ 2)
only c next (k, es, gs, z, inl u, m, h, i, e) = named c h
  where
    named : (c : ℕ) → Of equal_text (p (own 0)) c → (c ≡ 1) ⊎ (c ≡ 2)
    named zero h = absurd (true≢false (sym h))
    named (suc zero) h = inl refl
    named (suc (suc zero)) h = inr refl
    named (suc (suc (suc d))) h = let b = (of_bounds equal_text (p (own 0)) (suc (suc (suc d))) h).1 in absurd (omega arith)
only c next (k, es, gs, z, inr o, m, h, i, e) = elim m [ ]

has : (c : ℕ) → Contains (1 ∷ 2 ∷ []) c → (next : QueryTree equal_text) × Split start c next
has c i = elim (contains_cases 1 c (2 ∷ []) i) [
  | inl h ↦ (taken 1 refl, subst (λ n. Split start n (taken 1 refl)) (sym h) split_first)
  | inr h ↦ elim (contains_cases 2 c [] h) [
    | inl k ↦ (taken 2 refl, subst (λ n. Split start n (taken 2 refl)) (sym k) split_second)
    | inr k ↦ absurd (contains_none c k)
  ]
]

clauses : SplitClauses start (1 ∷ 2 ∷ [])
clauses = (
  AllPairs-cons (λ m n. m < n) 1 (2 ∷ []) (All-cons (λ n. 1 < n) 2 [] (omega arith) (all_none (λ n. 1 < n)))
      (AllPairs-cons (λ m n. m < n) 2 [] (all_none (λ n. 2 < n)) (all_pairs_none (λ m n. m < n))),
  λ c. (
    has c,
    λ s. elim (only c s.0 s.1) [
      | inl i ↦ subst (λ n. Contains (1 ∷ 2 ∷ []) n) (sym i) (contains_first 1 (2 ∷ []))
      | inr i ↦ subst (λ n. Contains (1 ∷ 2 ∷ []) n) (sym i) (contains_more 1 2 (2 ∷ []) (contains_first 2 []))
    ],
  ),
)

first_whole : Shut (taken 1 refl)
first_whole = (equations (taken 1 refl), [], Closes.waiting (equations (taken 1 refl)) [] tt, (all_are_a, (refl, tt)), λ o. elim o [ ])

second_whole : Shut (taken 2 refl)
second_whole = (equations (taken 2 refl), [], Closes.waiting (equations (taken 2 refl)) [] tt, (all_are_a, (refl, tt)), λ o. elim o [ ])

-- The search forks once, at once, and each split ends.
pub one_fork : SearchForks equal_text (record { key = []; decided = []; candidates = 1 ∷ 2 ∷ [] } ∷ [])
one_fork =
    let first : Forks (taken 1 refl) (1 ∷ []) [] = Forks.ended (taken 1 refl) (taken 1 refl) (1 ∷ []) (Steps.none (taken 1 refl)) (inr (first_whole, tt)) in
    let second : Forks (taken 2 refl) (2 ∷ []) [] = Forks.ended (taken 2 refl) (taken 2 refl) (2 ∷ []) (Steps.none (taken 2 refl)) (inr (second_whole, tt)) in
    Forks.forked start start [] (1 ∷ 2 ∷ []) [] (Steps.none start) shut (inl tt) clauses
    (ForksOfSplits.more start (taken 1 refl) 1 (2 ∷ []) [] [] split_first first
    (ForksOfSplits.more start (taken 2 refl) 2 [] [] [] split_second second (ForksOfSplits.none start)))
