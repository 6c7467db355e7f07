-- The state of a branch's tree, tried on small programs.
use Rattle.std.proofs.Common.{ℕ, zero, suc, ◌≡◌, ◌<◌, ◌≤◌, ◌⊎◌, [], ◌∷◌, Some, None, refl, sym, subst, inl, inr, true≢false, arith}
use Rattle.std.specs.Prelude.{AllPairs, Contains}
use Rattle.std.proofs.lemmas.List.Elements.{All-cons}
use Rattle.std.proofs.lemmas.List.Kept.{AllPairs-cons}
use Rattle.and_model.specs.Programs.{clause_weight}
use Rattle.and_model.specs.Closure.{Closes}
use Rattle.and_model.specs.Trees.{Open}
use Rattle.and_model.specs.Reached.{CandidateOf}
use Rattle.and_model.specs.Limits.{at_goal, NoneAloneFits, OverLimit}
use Rattle.and_laws.proofs.Deciding.{of_bounds}
use Rattle.and_laws.proofs.Pairwise.{all_none, all_pairs_none}
use Rattle.and_laws.proofs.Ordered.{contains_first, contains_more, contains_none, contains_cases}
use Rattle.and_branch_laws.specs.States.{IsBefore, IsSole, Fits, Lives, ShutAt, failed, determinate, over_one, over_all}
use Rattle.and_branch_laws.specs.States.{fork, floundered, answer, StateOf}
use Rattle.and_branch_laws.proofs.OneState.{one_state}
use Rattle.and_examples.specs.Texts.{own, whole, p, q, circle, floundered_text, x_is_x, late_text}
use Rattle.and_examples.specs.LimitExamples.{naturals, at_least_0, nat}
use Rattle.and_examples.specs.DeadExamples.{hopeless, hopeless_start, circle_start}
use Rattle.and_examples.specs.StateExamples.{heavy_first, heavy_start, floundered_start, late_start}
use Rattle.and_examples.proofs.ReachedExamples.{all_are}
use Rattle.and_examples.proofs.LimitExamples.{zero_0, more_0, shut_0}
use Rattle.and_examples.proofs.DeadExamples.{dead, circle_dead}
use Rattle.and_examples.proofs.Waiting.{only_waits, floundered_closes, late_closes}

-- ---- p(X) :- q(X). q(1). ?- p(X), q(Y). Clause 1 is the one candidate of p(X), and clause 2 that of q(Y).
heavy : IsSole heavy_start [] (inl tt) 1
heavy = ((refl, (all_are 1, (refl, tt)), λ a i. elim i [ ]), alone)
  where
    alone : (c : ℕ) → CandidateOf heavy_start [] (inl tt) c → c ≡ 1
    alone zero k = absurd (true≢false (sym k.0))
    alone (suc zero) k = refl
    alone (suc (suc zero)) k = absurd (true≢false (sym k.0))
    alone (suc (suc (suc c))) k = let b = (of_bounds heavy_first (p (own 0)) (suc (suc (suc c))) k.0).1 in absurd (omega arith)

light : IsSole heavy_start [] (inr (inl tt)) 2
light = ((refl, (all_are 1, (refl, tt)), λ a i. elim i [ ]), alone)
  where
    alone : (c : ℕ) → CandidateOf heavy_start [] (inr (inl tt)) c → c ≡ 2
    alone zero k = absurd (true≢false (sym k.0))
    alone (suc zero) k = absurd (true≢false (sym k.0))
    alone (suc (suc zero)) k = refl
    alone (suc (suc (suc c))) k = let b = (of_bounds heavy_first (q (own 1)) (suc (suc (suc c))) k.0).1 in absurd (omega arith)

lives : Lives heavy_start [] []
lives = (Closes.waiting [] [] tt, (all_are 1, tt), each)
  where
    each : (o : Open heavy_start) → (c : ℕ) × CandidateOf heavy_start [] o c
    each (inl u) = (1, heavy.0)
    each (inr (inl u)) = (2, light.0)
    each (inr (inr n)) = elim n [ ]

-- Clause 1 does not fit within a limit below 5, and clause 2 not within one below 4.
too_heavy : (limit d : ℕ) → limit < 5 → IsSole heavy_start [] (inl tt) d → Fits limit heavy_start d → ⊥
unfolding clause_weight
too_heavy limit d small sole fits =
    let is : d ≡ 1 = heavy.1 d sole.0 in
    let fits_one : 5 ≤ limit = subst (λ c. Fits limit heavy_start c) is fits in
    omega arith

too_heavy_too : (limit d : ℕ) → limit < 4 → IsSole heavy_start [] (inr (inl tt)) d → Fits limit heavy_start d → ⊥
unfolding clause_weight
too_heavy_too limit d small sole fits =
    let is : d ≡ 2 = light.1 d sole.0 in
    let fits_two : 4 ≤ limit = subst (λ c. Fits limit heavy_start c) is fits in
    omega arith

pub first_fits : StateOf heavy_first 5 heavy_start (determinate (inl tt) 1)
unfolding clause_weight
first_fits = ([], [], lives, heavy, omega arith, before)
  where
    before : (o : Open heavy_start) (d : ℕ) → IsBefore heavy_start o (inl tt) → IsSole heavy_start [] o d → Fits 5 heavy_start d → ⊥
    before (inl u) d b sole fits = b
    before (inr o) d b sole fits = b

pub second_fits : StateOf heavy_first 4 heavy_start (determinate (inr (inl tt)) 2)
unfolding clause_weight
second_fits = ([], [], lives, light, omega arith, before)
  where
    before : (o : Open heavy_start) (d : ℕ) → IsBefore heavy_start o (inr (inl tt)) → IsSole heavy_start [] o d → Fits 4 heavy_start d → ⊥
    before (inl u) d b sole fits = too_heavy 4 d (omega arith) sole fits
    before (inr (inl u)) d b sole fits = b
    before (inr (inr n)) d b sole fits = elim n [ ]

pub neither_fits : StateOf heavy_first 3 heavy_start (over_one (inl tt) 1)
neither_fits = ([], [], lives, none_fits, heavy, before)
  where
    none_fits : (o : Open heavy_start) (d : ℕ) → IsSole heavy_start [] o d → Fits 3 heavy_start d → ⊥
    none_fits (inl u) d sole fits = too_heavy 3 d (omega arith) sole fits
    none_fits (inr (inl u)) d sole fits = too_heavy_too 3 d (omega arith) sole fits
    none_fits (inr (inr n)) d sole fits = elim n [ ]

    before : (o : Open heavy_start) (d : ℕ) → IsBefore heavy_start o (inl tt) → IsSole heavy_start [] o d → ⊥
    before (inl u) d b sole = b
    before (inr o) d b sole = b

-- Where the second goal's clause fits, the first goal's is not told as over.
pub not_over : StateOf heavy_first 4 heavy_start (over_one (inl tt) 1) → ⊥
not_over over = let same = one_state heavy_first 4 heavy_start (determinate (inr (inl tt)) 2) (over_one (inl tt) 1) second_fits over in cc

-- Nor is it a cause of a cut: the tree goes on by the second goal.
pub no_cut : (c : ℕ) → OverLimit heavy_first 4 (at_goal heavy_start (inl tt) c) → ⊥
unfolding clause_weight
no_cut c over =
    let nothing : over.2 ≡ [] = (only_waits [] [] over.2 over.3 tt over.4).0 in
    let none : NoneAloneFits heavy_first 4 heavy_start [] = subst (λ es. NoneAloneFits heavy_first 4 heavy_start es) nothing over.8 in
    let above : 4 < 4 = none (inr (inl tt)) 2 light.0 light.1 in
    omega arith

-- ---- nat(z). nat(s(N)) :- nat(N). ?- nat(X). Both clauses are candidates. The query weighs 2, clause 1 weighs 1 and clause 2 weighs 2.
either : (c : ℕ) → CandidateOf at_least_0 [] (inl tt) c → (c ≡ 1) ⊎ (c ≡ 2)
either zero k = absurd (true≢false (sym k.0))
either (suc zero) k = inl refl
either (suc (suc zero)) k = inr refl
either (suc (suc (suc c))) k = let b = (of_bounds naturals (nat (own 0)) (suc (suc (suc c))) k.0).1 in absurd (omega arith)

shut : ShutAt at_least_0 (inl tt) [] []
shut = (shut_0, tt, Closes.waiting [] [] tt)

pub both_fit : StateOf naturals 4 at_least_0 (fork (inl tt) (1 ∷ 2 ∷ []) None)
unfolding clause_weight
both_fit = ([], [], shut, (λ e. cc), rising, (λ c. (here c, there c)), none_left)
  where
    rising : AllPairs (λ (c d : ℕ). c < d) (1 ∷ 2 ∷ [])
    rising =
        AllPairs-cons (λ m n. m < n) 1 (2 ∷ []) (All-cons (λ n. 1 < n) 2 [] (omega arith) (all_none (λ n. 1 < n)))
        (AllPairs-cons (λ m n. m < n) 2 [] (all_none (λ n. 2 < n)) (all_pairs_none (λ m n. m < n)))

    one : CandidateOf at_least_0 [] (inl tt) 1 × Fits 4 at_least_0 1
    one = (zero_0, omega arith)

    two : CandidateOf at_least_0 [] (inl tt) 2 × Fits 4 at_least_0 2
    two = (more_0, omega arith)

    here : (c : ℕ) → Contains (1 ∷ 2 ∷ []) c → CandidateOf at_least_0 [] (inl tt) c × Fits 4 at_least_0 c
    here c among = elim (contains_cases 1 c (2 ∷ []) among) [
      | inl is ↦ subst (λ n. CandidateOf at_least_0 [] (inl tt) n × Fits 4 at_least_0 n) (sym is) one
      | inr later ↦ elim (contains_cases 2 c [] later) [
        | inl is ↦ subst (λ n. CandidateOf at_least_0 [] (inl tt) n × Fits 4 at_least_0 n) (sym is) two
        | inr elsewhere ↦ absurd (contains_none c elsewhere)
      ]
    ]

    there : (c : ℕ) → CandidateOf at_least_0 [] (inl tt) c × Fits 4 at_least_0 c → Contains (1 ∷ 2 ∷ []) c
    there c k = elim (either c k.0) [
      | inl is ↦ subst (λ n. Contains (1 ∷ 2 ∷ []) n) (sym is) (contains_first 1 (2 ∷ []))
      | inr is ↦ subst (λ n. Contains (1 ∷ 2 ∷ []) n) (sym is) (contains_more 1 2 (2 ∷ []) (contains_first 2 []))
    ]

    none_left : (c : ℕ) → CandidateOf at_least_0 [] (inl tt) c × (Fits 4 at_least_0 c → ⊥) → ⊥
    none_left c k = elim (either c k.0) [
      | inl is ↦ k.1 (subst (λ n. Fits 4 at_least_0 n) (sym is) one.1)
      | inr is ↦ k.1 (subst (λ n. Fits 4 at_least_0 n) (sym is) two.1)
    ]

-- Within 3 the first clause fits and the second does not, which is told as the cut;
pub first_alone_fits : StateOf naturals 3 at_least_0 (fork (inl tt) (1 ∷ []) (Some 2))
unfolding clause_weight
first_alone_fits = ([], [], shut, (λ e. cc), rising, (λ c. (here c, there c)), ((more_0, λ fits. omega arith), least))
  where
    rising : AllPairs (λ (c d : ℕ). c < d) (1 ∷ [])
    rising = AllPairs-cons (λ m n. m < n) 1 [] (all_none (λ n. 1 < n)) (all_pairs_none (λ m n. m < n))

    one : CandidateOf at_least_0 [] (inl tt) 1 × Fits 3 at_least_0 1
    one = (zero_0, omega arith)

    two_is_heavy : Fits 3 at_least_0 2 → ⊥
    two_is_heavy fits = omega arith

    here : (c : ℕ) → Contains (1 ∷ []) c → CandidateOf at_least_0 [] (inl tt) c × Fits 3 at_least_0 c
    here c among = elim (contains_cases 1 c [] among) [
      | inl is ↦ subst (λ n. CandidateOf at_least_0 [] (inl tt) n × Fits 3 at_least_0 n) (sym is) one
      | inr elsewhere ↦ absurd (contains_none c elsewhere)
    ]

    there : (c : ℕ) → CandidateOf at_least_0 [] (inl tt) c × Fits 3 at_least_0 c → Contains (1 ∷ []) c
    there c k = elim (either c k.0) [
      | inl is ↦ subst (λ n. Contains (1 ∷ []) n) (sym is) (contains_first 1 [])
      | inr is ↦ absurd (two_is_heavy (subst (λ n. Fits 3 at_least_0 n) is k.1))
    ]

    least : (d : ℕ) → CandidateOf at_least_0 [] (inl tt) d × (Fits 3 at_least_0 d → ⊥) → 2 ≤ d
    least d k = elim (either d k.0) [
      | inl is ↦ absurd (k.1 (subst (λ n. Fits 3 at_least_0 n) (sym is) one.1))
      | inr is ↦ (omega arith)
    ]

-- and within 2 neither fits, and the first is told.
pub all_over : StateOf naturals 2 at_least_0 (over_all (inl tt) 1)
unfolding clause_weight
all_over = ([], [], shut, none_fits, (zero_0, least))
  where
    one_is_heavy : Fits 2 at_least_0 1 → ⊥
    one_is_heavy fits = omega arith

    two_is_heavy : Fits 2 at_least_0 2 → ⊥
    two_is_heavy fits = omega arith

    none_fits : (d : ℕ) → CandidateOf at_least_0 [] (inl tt) d → Fits 2 at_least_0 d → ⊥
    none_fits d k fits = elim (either d k) [
      | inl is ↦ one_is_heavy (subst (λ n. Fits 2 at_least_0 n) is fits)
      | inr is ↦ two_is_heavy (subst (λ n. Fits 2 at_least_0 n) is fits)
    ]

    least : (d : ℕ) → CandidateOf at_least_0 [] (inl tt) d → 1 ≤ d
    least d k = elim (either d k) [ inl is ↦ (omega arith) | inr is ↦ (omega arith) ]

-- A fork does not leave out its cut.
pub not_uncut : StateOf naturals 3 at_least_0 (fork (inl tt) (1 ∷ []) None) → ⊥
not_uncut uncut =
    let same = one_state naturals 3 at_least_0 (fork (inl tt) (1 ∷ []) (Some 2)) (fork (inl tt) (1 ∷ []) None) first_alone_fits uncut in
    cc

-- ---- p(1). q(2). ?- p(X), q(3). No clause is a candidate of q(3).
pub goal_fails : StateOf hopeless 10 hopeless_start failed
goal_fails = dead

-- So that p(X) has one candidate is not told.
pub not_determinate : StateOf hopeless 10 hopeless_start (determinate (inl tt) 1) → ⊥
not_determinate one = let same = one_state hopeless 10 hopeless_start failed (determinate (inl tt) 1) dead one in cc

-- ---- ?- X = f(X).
pub equations_fail : StateOf circle 10 circle_start failed
equations_fail = circle_dead

-- ---- ?- X is X + 0. and ?- X < 3, X = 2.
pub waits : StateOf floundered_text 10 floundered_start floundered
waits = ([], x_is_x ∷ [], floundered_closes, (all_are 1, tt), tt, λ none. cc)

pub answers : StateOf late_text 10 late_start answer
answers = ((own 0, whole 2) ∷ [], [], late_closes, (all_are 2, (refl, tt)), tt, refl)
