-- What unification decides: whether goals are known, that each list of equations has a closure, and which clauses are candidates.
use Rattle.std.proofs.Common.{ℕ, ◌≡◌, ◌≤◌, ◌<◌, List, [], ◌∷◌, ◌++◌, refl, ap, sym, ◌∙◌, subst, inl, inr, ◌⊎◌, true, true≢false, ◌&&◌, arith, zero, suc}
use Rattle.std.proofs.Common.{length, ltb, leb}
use Rattle.std.proofs.lemmas.Bool.{ltb-true, leb-true}
use Rattle.and_model.specs.Terms.{Path, Term, Terms, are_ground, Substitution, apply_all}
use Rattle.and_model.specs.Solutions.{Equation, MostGeneral}
use Rattle.and_model.specs.Programs.{Program, Arithmetic, clause_at, is_of, Of, head_in, same_predicate}
use Rattle.and_model.specs.Closure.{needs, added, refutes, Known, Ready, First, first, after, NoneReady, Closes}
use Rattle.and_model.specs.Candidates.{In, guard, Refuted, Candidate}
use Rattle.and_laws.proofs.Substitutions.{apply_all_through, apply_all_ground, and_left, and_right}
use Rattle.and_laws.proofs.Equality.{bool_cases, number_or}
use Rattle.and_laws.proofs.Unifying.{unify}

-- A goal is known where the terms that it waits for are ground under a most general solution,
pub known_general : (s : Substitution) (es : List Equation) (g : Arithmetic) → MostGeneral s es → are_ground (apply_all s (needs g)) ≡ true
    → Known es g (apply_all s (needs g))
known_general s es g m e = (e, λ t p. apply_all_through s t (m.1 t p) (needs g) ∙ apply_all_ground t (apply_all s (needs g)) e)

-- and only there,
pub known_under : (s : Substitution) (es : List Equation) (g : Arithmetic) (ts : Terms) → MostGeneral s es → Known es g ts
    → are_ground (apply_all s (needs g)) ≡ true
known_under s es g ts m k = ap are_ground (k.1 s m.0) ∙ k.0

-- so it is decided whether it is known,
pub ready_or : (s : Substitution) (es : List Equation) → MostGeneral s es → (g : Arithmetic) → Ready es g ⊎ (Ready es g → ⊥)
ready_or s es m g =
    elim (bool_cases (are_ground (apply_all s (needs g)))) [
      | inl e ↦ inl (apply_all s (needs g), known_general s es g m e)
      | inr e ↦ inr (λ r. true≢false (sym (known_under s es g r.0 m r.1) ∙ e))
    ]

-- and which is the first known goal of a list.
pub first_or : (s : Substitution) (es : List Equation) → MostGeneral s es → (gs : List Arithmetic)
    → ((g : Arithmetic) × (bs : List Arithmetic) × (ts : Terms) × First es gs g bs × Known es g ts × (suc (length bs) ≡ length gs)) ⊎ NoneReady es gs
first_or s es m [] = inr tt
first_or s es m (g ∷ gs) =
    elim (ready_or s es m g) [
      | inl r ↦ inl (g, gs, r.0, first g gs, r.1, refl)
      | inr n ↦ elim (first_or s es m gs) [ inl f ↦ inl (f.0, g ∷ f.1, f.2, after g gs f.0 f.1 n f.3, f.4, ap suc f.5) | inr ns ↦ inr (n, ns) ]
    ]

-- (by induction on the number of goals)
pub closes_within : (n : ℕ) (es : List Equation) (gs : List Arithmetic) → length gs ≤ n → (ds : List Equation) × (ws : List Arithmetic) × Closes es gs ds ws
closes_within zero es [] h = (es, [], Closes.waiting es [] tt)
closes_within zero es (g ∷ gs) h = absurd (omega arith)
closes_within (suc n) es gs h =
    elim (unify es) [
      | inr none_is ↦ (es, gs, Closes.unsolved es gs none_is)
      | inl m ↦ elim (first_or m.0 es m.1 gs) [
        | inr ns ↦ (es, gs, Closes.waiting es gs ns)
        | inl f ↦
            let less : length f.1 ≤ n = omega (arith, f.5, h) in
            let r = closes_within n (added f.0 f.2 ++ es) f.1 less in
            (r.0, r.1, Closes.run es gs f.0 f.1 f.2 r.0 r.1 (m.0, m.1.0) f.3 f.4 r.2)
      ]
    ]

-- Each list of equations and goals has a closure.
pub closes_total : (es : List Equation) (gs : List Arithmetic) → (ds : List Equation) × (ws : List Arithmetic) × Closes es gs ds ws
closes_total es gs = closes_within (length gs) es gs (omega arith)

-- It is decided whether a comparison is refuted,
pub refuted_or : (s : Substitution) (es : List Equation) → MostGeneral s es → (a : Arithmetic) → Refuted es a ⊎ (Refuted es a → ⊥)
refuted_or s es m a =
    elim (ready_or s es m a) [
      | inr n ↦ inr (λ r. n (r.0, r.1))
      | inl k ↦ elim (bool_cases (refutes a k.0)) [
        | inl e ↦ inl (k.0, k.1, e)
        | inr e ↦ inr (λ r.
            let same : r.0 ≡ k.0 = sym (r.1.1 s m.0) ∙ k.1.1 s m.0 in
            true≢false (sym r.2 ∙ ap (refutes a) same ∙ e))
      ]
    ]

-- and whether one of a guard is,
pub guard_or : (s : Substitution) (es : List Equation) → MostGeneral s es → (gs : List Arithmetic)
    → ((a : Arithmetic) × In a gs × Refuted es a) ⊎ ((a : Arithmetic) → In a gs → Refuted es a → ⊥)
guard_or s es m [] = inr (λ a i r. elim i [ ])
guard_or s es m (g ∷ gs) =
    elim (refuted_or s es m g) [
      | inl r ↦ inl (g, inl refl, r)
      | inr n ↦ elim (guard_or s es m gs) [
        | inl f ↦ inl (f.0, inr f.1, f.2)
        | inr ns ↦ inr (λ a i r. elim i [ inl e ↦ n (subst (λ x. Refuted es x) e r) | inr j ↦ ns a j r ])
      ]
    ]

-- so it is decided whether a clause is a candidate.
pub candidate_or : (P : Program) (es : List Equation) (q : Path) (g : Term) (c : ℕ) → Candidate P es q g c ⊎ (Candidate P es q g c → ⊥)
candidate_or P es q g c =
    elim (bool_cases (is_of P g c)) [
      | inr e ↦ inr (λ k. true≢false (sym k.0 ∙ e))
      | inl e ↦ elim (unify ((g, head_in P q c) ∷ es)) [
        | inr n ↦ inr (λ k. n k.1)
        | inl m ↦ elim (guard_or m.0 ((g, head_in P q c) ∷ es) m.1 (guard q (clause_at P c).body)) [
          | inl f ↦ inr (λ k. k.2 f.0 f.1 f.2)
          | inr ns ↦ inl (e, (m.0, m.1.0), ns)
        ]
      ]
    ]

-- A clause of a goal's predicate is one of the program's, and not the query.
pub of_bounds : (P : Program) (g : Term) (c : ℕ) → Of P g c → (0 < c) × (c ≤ length P.clauses)
of_bounds P g c h =
    let in_range : ltb 0 c && leb c (length P.clauses) ≡ true = and_left (ltb 0 c && leb c (length P.clauses)) (same_predicate g (clause_at P c).head) h in (
      ltb-true 0 c (and_left (ltb 0 c) (leb c (length P.clauses)) in_range),
      leb-true c (length P.clauses) (and_right (ltb 0 c) (leb c (length P.clauses)) in_range),
    )

-- There is another candidate than c, or none up to n.
pub other_or : (P : Program) (es : List Equation) (q : Path) (g : Term) (c n : ℕ)
    → ((d : ℕ) × (c ≡ d → ⊥) × Candidate P es q g d) ⊎ ((d : ℕ) → d < n → Candidate P es q g d → d ≡ c)
other_or P es q g c zero = inr (λ d h k. absurd (omega arith))
other_or P es q g c (suc n) =
    elim (other_or P es q g c n) [
      | inl f ↦ inl f
      | inr ns ↦ elim (number_or c n) [
        | inl e ↦ inr (λ d h k. elim (number_or d n) [ inl f ↦ f ∙ sym e | inr f ↦ ns d (omega arith) k ])
        | inr e ↦ elim (candidate_or P es q g n) [
          | inl k ↦ inl (n, e, k)
          | inr nk ↦ inr (λ d h k. elim (number_or d n) [ inl f ↦ absurd (nk (subst (λ x. Candidate P es q g x) f k)) | inr f ↦ ns d (omega arith) k ])
        ]
      ]
    ]

-- There is another candidate, or none.
pub others : (P : Program) (es : List Equation) (q : Path) (g : Term) (c : ℕ)
    → ((d : ℕ) × (c ≡ d → ⊥) × Candidate P es q g d) ⊎ ((d : ℕ) → Candidate P es q g d → d ≡ c)
others P es q g c =
    elim (other_or P es q g c (suc (length P.clauses))) [
      | inl f ↦ inl f
      | inr ns ↦ inr (λ d k. let b = (of_bounds P g d k.0).1 in ns d (omega arith) k)
    ]
