-- Each tree has a state.
use Rattle.std.proofs.Common.{ℕ, zero, suc, ◌+◌, ◌≡◌, ◌<◌, ◌≤◌, List, [], ◌∷◌, length, Option, Some, None, refl, sym, ◌∙◌, subst, inl}
use Rattle.std.proofs.Common.{inr, ◌⊎◌, arith, Contains}
use Rattle.std.proofs.lemmas.Bool.{cases_lt}
use Rattle.and_model.specs.Solutions.{Equation, Solvable}
use Rattle.and_model.specs.Programs.{Program, Arithmetic, clause_at, clause_weight}
use Rattle.and_model.specs.Trees.{Agenda, Tree, QueryTree, done, left, by, equate, reckon, Open, IsLeftmost, IsWhole, Closed, path, call_of}
use Rattle.and_model.specs.Trees.{weight, equations, arithmetics}
use Rattle.and_model.specs.Reached.{CandidateOf, Shut}
use Rattle.and_laws.proofs.Deciding.{closes_total, candidate_or, others, of_bounds}
use Rattle.and_laws.proofs.Equality.{number_or}
use Rattle.and_laws.proofs.Numbering.{Listed, listed}
use Rattle.and_laws.proofs.Order.{open_or_whole}
use Rattle.and_laws.proofs.Ordered.{contains_none}
use Rattle.and_laws.proofs.Splitting.{leftmost}
use Rattle.and_laws.proofs.Unifying.{unify}
use Rattle.and_branch_laws.specs.States.{IsBefore, IsSole, Fits, Lives, IsFirst, State, failed, determinate, over_one, over_all, fork}
use Rattle.and_branch_laws.specs.States.{floundered, answer, StateOf}

-- ---- Searches that end

-- The first open goal of which something holds, or of none it holds.
first_open : {P : Program} {ag : Agenda} (t : Tree P ag) (A : Open t → Type 0) → ((o : Open t) → A o ⊎ (A o → ⊥))
    → ((o : Open t) × A o × ((p : Open t) → IsBefore t p o → A p → ⊥)) ⊎ ((o : Open t) → A o → ⊥)
first_open done A f = inr (λ o. elim o [ ])
first_open (left t) A f = elim (f (inl tt)) [
  | inl a ↦ inl (inl tt, a, elim [ inl u ↦ λ b. elim b [ ] | inr p ↦ λ b. elim b [ ] ])
  | inr n ↦ elim (first_open t (λ o. A (inr o)) (λ o. f (inr o))) [
    | inl x ↦ inl (inr x.0, x.1, elim [ inl u ↦ λ b a. n a | inr p ↦ λ b a. x.2 p b a ])
    | inr ns ↦ inr (elim [ inl u ↦ λ a. n a | inr o ↦ λ a. ns o a ])
  ]
]
first_open (by c h t) A f = first_open t A f
first_open (equate t) A f = first_open t A f
first_open (reckon t) A f = first_open t A f

-- The least number below n of which something holds, or of none it holds.
least : (A : ℕ → Type 0) → ((c : ℕ) → A c ⊎ (A c → ⊥)) → (n : ℕ) → ((c : ℕ) × (c < n) × A c × ((d : ℕ) → A d → c ≤ d))
    ⊎ ((c : ℕ) → c < n → A c → ⊥)
least A f zero = inr (λ c l a. absurd (omega arith))
least A f (suc n) = elim (least A f n) [
  | inl x ↦ inl (x.0, (let l = x.1 in omega arith), x.2, x.3)
  | inr ns ↦ elim (f n) [
    | inl a ↦ inl (n, omega arith, a, λ d b. elim (cases_lt d n) [ inl low ↦ absurd (ns d low b) | inr high ↦ high ])
    | inr na ↦ inr (λ c l a. elim (number_or c n) [ inl e ↦ na (subst A e a) | inr other ↦ ns c (omega arith) a ])
  ]
]

abbrev Least : (ℕ → Type 0) → ℕ → Type 0
Least A n = ((c : ℕ) × (c < n) × A c × ((d : ℕ) → A d → c ≤ d)) ⊎ ((c : ℕ) → c < n → A c → ⊥)

-- ---- The state

module _ (P : Program) (limit : ℕ) (t : QueryTree P) where
  -- whether the clause fits is decided
  fits_or : (c : ℕ) → Fits limit t c ⊎ (Fits limit t c → ⊥)
  fits_or c = elim (cases_lt limit (weight t + clause_weight (clause_at P c)))
      [ inl above ↦ inr (λ fits. omega arith) | inr fits ↦ inl fits ]

  -- a tree without open goals
  whole_state : (es : List Equation) (gs : List Arithmetic) → Closed t es gs → Solvable es → IsWhole t → (s : State t) × StateOf P limit t s
  whole_state es [] x so whole = (answer, (es, [], x, so, whole, refl))
  whole_state es (g ∷ gs) x so whole = (floundered, (es, g ∷ gs, x, so, whole, λ e. cc))

  module _ (es : List Equation) (gs : List Arithmetic) (x : Closed t es gs) (so : Solvable es)
      (has : (o : Open t) → (c : ℕ) × CandidateOf t es o c) where
    candidate_below : (o : Open t) (c : ℕ) → CandidateOf t es o c → c < suc (length P.clauses)
    candidate_below o c k = let b = (of_bounds P (call_of t o) c k.0).1 in omega arith

    -- whether a goal has one candidate alone is decided,
    sole_or : (o : Open t) → ((c : ℕ) × IsSole t es o c) ⊎ (((c : ℕ) × IsSole t es o c) → ⊥)
    sole_or o =
        let c = has o in
        elim (others P es (path t o) (call_of t o) c.0) [
          | inl other ↦ inr (λ s. other.1 (s.1.1 c.0 c.1 ∙ sym (s.1.1 other.0 other.2)))
          | inr only ↦ inl (c.0, (c.1, only))
        ]

    -- and whether that fits.
    fitting_or : (o : Open t) → ((c : ℕ) × IsSole t es o c × Fits limit t c) ⊎ (((c : ℕ) × IsSole t es o c × Fits limit t c) → ⊥)
    fitting_or o = elim (sole_or o) [
      | inr none ↦ inr (λ s. none (s.0, s.1))
      | inl s ↦ elim (fits_or s.0) [
        | inl fits ↦ inl (s.0, s.1, fits)
        | inr heavy ↦ inr (λ r. heavy (subst (λ (c : ℕ). Fits limit t c) (s.1.1 r.0 r.1.0) r.2))
      ]
    ]

    abbrev among : ℕ
    among = suc (length P.clauses)

    -- the first that does not fit, if any does not
    cut_of : (A : ℕ → Type 0) → Least A among → ((c : ℕ) → A c → c < suc (length P.clauses)) → (cut : Option ℕ) × IsFirst A cut
    cut_of A (inl l) below = (Some l.0, (l.2, l.3))
    cut_of A (inr none) below = (None, λ c a. none c (below c a) a)

    -- a Shut tree, at its leftmost goal
    at_goal : (shut : Shut t) (o : Open t) (first : IsLeftmost t o) (l : Listed (λ c. CandidateOf t es o c × Fits limit t c) among)
        (cs : List ℕ) → l.numbers ≡ cs
        → Least (λ c. CandidateOf t es o c) among → Least (λ c. CandidateOf t es o c × (Fits limit t c → ⊥)) among → (s : State t)
        × StateOf P limit t s
    at_goal shut o first l [] e (inl c) unfit = (
      over_all o c.0,
      (
        es,
        gs,
        (shut, first, x),
        λ d k fits. contains_none d (subst (λ (ls : List ℕ). Contains ls d) e (l.all d (k, fits) (candidate_below o d k))),
        (c.2, c.3),
      ),
    )
    at_goal shut o first l [] e (inr none) unfit = absurd (let c = has o in none c.0 (candidate_below o c.0 c.1) c.1)
    at_goal shut o first l (c ∷ cs) e some unfit =
        let cut = cut_of (λ d. CandidateOf t es o d × (Fits limit t d → ⊥)) unfit (λ d k. candidate_below o d k.0) in (
          fork o l.numbers cut.0,
          (
            es,
            gs,
            (shut, first, x),
            (λ none. let f = sym e ∙ none in cc),
            l.rising,
            λ d. ((λ h. (l.has d h).0), (λ k. l.all d k (candidate_below o d k.0))),
            cut.1,
          ),
        )

    shut_state : Shut t → (o : Open t) → IsLeftmost t o → (s : State t) × StateOf P limit t s
    shut_state shut o first =
        let decided : (c : ℕ) → CandidateOf t es o c ⊎ (CandidateOf t es o c → ⊥) = λ c. candidate_or P es (path t o) (call_of t o) c in
        let both : (c : ℕ) → (CandidateOf t es o c × Fits limit t c) ⊎ (CandidateOf t es o c × Fits limit t c → ⊥) =
        λ c. elim (decided c)
        [ inr n ↦ inr (λ k. n k.0) | inl a ↦ elim (fits_or c) [ inl fits ↦ inl (a, fits) | inr heavy ↦ inr (λ k. heavy k.1) ] ] in
        let unfit : (c : ℕ) → (CandidateOf t es o c × (Fits limit t c → ⊥)) ⊎ (CandidateOf t es o c × (Fits limit t c → ⊥) → ⊥) =
        λ c. elim (decided c)
        [ inr n ↦ inr (λ k. n k.0) | inl a ↦ elim (fits_or c) [ inl fits ↦ inr (λ k. k.1 fits) | inr heavy ↦ inl (a, heavy) ] ] in
        let l : Listed (λ c. CandidateOf t es o c × Fits limit t c) among =
        listed (λ c. CandidateOf t es o c × Fits limit t c) both among in
        at_goal shut o first l l.numbers refl (least (λ c. CandidateOf t es o c) decided among)
        (least (λ c. CandidateOf t es o c × (Fits limit t c → ⊥)) unfit among)

    -- a tree in which no goal has one candidate alone
    forked_state : ((o : Open t) → ((c : ℕ) × IsSole t es o c) → ⊥) → (s : State t) × StateOf P limit t s
    forked_state none = elim (open_or_whole t) [
      | inr whole ↦ whole_state es gs x so whole
      | inl any ↦
          let first = leftmost t any in
          let shut : Shut t = (
            es,
            gs,
            x,
            so,
            λ o. (
                let c = has o in
                elim (others P es (path t o) (call_of t o) c.0)
                [ inl other ↦ (c.0, other.0, other.1, c.1, other.2) | inr only ↦ absurd (none o (c.0, (c.1, only))) ]),
          ) in
          shut_state shut first.0 first.1
    ]

    lives : Lives t es gs
    lives = (x, so, has)

    -- any tree that lives
    living_state : (s : State t) × StateOf P limit t s
    living_state = elim (first_open t (λ o. (c : ℕ) × IsSole t es o c × Fits limit t c) fitting_or) [
      | inl f ↦ (determinate f.0 f.1.0, (es, gs, lives, f.1.1, f.1.2, λ p d b sole fits. f.2 p b (d, sole, fits)))
      | inr none_fits ↦ elim (first_open t (λ o. (c : ℕ) × IsSole t es o c) sole_or) [
        | inl f ↦ (
          over_one f.0 f.1.0,
          (es, gs, lives, (λ p d sole fits. none_fits p (d, sole, fits)), f.1.1, λ p d b sole. f.2 p b (d, sole)),
        )
        | inr none ↦ forked_state none
      ]
    ]

  -- whether a goal has a candidate is decided
  none_or : (es : List Equation) (o : Open t) → ((c : ℕ) → CandidateOf t es o c → ⊥) ⊎ (((c : ℕ) → CandidateOf t es o c → ⊥) → ⊥)
  none_or es o = elim (least (λ c. CandidateOf t es o c) (λ c. candidate_or P es (path t o) (call_of t o) c) (suc (length P.clauses))) [
    | inl l ↦ inr (λ n. n l.0 l.2)
    | inr ns ↦ inl (λ c k. ns c (let b = (of_bounds P (call_of t o) c k.0).1 in omega arith) k)
  ]

  some_candidate : (es : List Equation) (o : Open t) → (((c : ℕ) → CandidateOf t es o c → ⊥) → ⊥) → (c : ℕ) × CandidateOf t es o c
  some_candidate es o not_none =
      elim (least (λ c. CandidateOf t es o c) (λ c. candidate_or P es (path t o) (call_of t o) c) (suc (length P.clauses))) [
        | inl l ↦ (l.0, l.2)
        | inr ns ↦ absurd (not_none (λ c k. ns c (let b = (of_bounds P (call_of t o) c k.0).1 in omega arith) k))
      ]

  -- Each tree has a state.
  pub some_state : (s : State t) × StateOf P limit t s
  some_state =
      let (es, gs, x) = closes_total (equations t) (arithmetics t) in
      elim (unify es) [
        | inr unsolved ↦ (failed, (es, gs, x, inl unsolved))
        | inl m ↦ elim (first_open t (λ o. (c : ℕ) → CandidateOf t es o c → ⊥) (none_or es)) [
          | inl f ↦ (failed, (es, gs, x, inr (f.0, f.1)))
          | inr each ↦ living_state es gs x (m.0, m.1.0) (λ o. some_candidate es o (each o))
        ]
      ]
