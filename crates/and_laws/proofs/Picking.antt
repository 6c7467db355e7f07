-- What a larger tree has at an open goal of a smaller one, and that it was a candidate there.
use Rattle.std.proofs.Common.{ℕ, ◌≡◌, List, [], ◌∷◌, refl, ap, sym, ◌∙◌, subst, inl, inr, ◌⊎◌, true, false, not, cond}
use Rattle.and_model.specs.Terms.{Path, Term, Terms, none, more, Substitution, apply}
use Rattle.and_model.specs.Solutions.{Equation, Solves, Solvable, Entails, falsehood}
use Rattle.and_model.specs.Arithmetic.{holds}
use Rattle.and_model.specs.Programs.{Program, Item, Arithmetic, is, compare, clause_at, Of, head_in}
use Rattle.and_model.specs.Closure.{added, refutes, Known, ClosesAnyhow}
use Rattle.and_model.specs.Candidates.{In, guard, Refuted, Candidate}
use Rattle.and_model.specs.Trees.{Agenda, agenda, Tree, equations, arithmetics, IsWhole, Open, path, call_of, fresh, reduce, Below, both_done, both_left}
use Rattle.and_model.specs.Trees.{both_by, grown, both_equate, both_reckon, Closed, HasOutcome}
use Rattle.and_model.specs.Reached.{CandidateOf}
use Rattle.and_laws.proofs.Closing.{closing_keeps, closing_ran, closing_monotone, closes_anyhow, known_more}
use Rattle.and_laws.proofs.Bodies.{fresh_guard, lift, lift_call, lift_path, lift_reduce}
use Rattle.and_laws.proofs.Order.{below_equations, below_arithmetics, whole_has_none}

-- The closed equations of a larger tree entail those of a smaller one.
pub closed_grows : {P : Program} {ag : Agenda} {t u : Tree P ag} (es ds : List Equation) (gs ws : List Arithmetic) → Below P ag t u → Closed t es gs
    → Closed u ds ws → Entails ds es
closed_grows {P} {ag} {t} {u} es ds gs ws b x y =
    closing_monotone (equations t) (arithmetics t) es gs (closes_anyhow (equations t) (arithmetics t) es gs x) (equations u) (arithmetics u) ds ws
    (closes_anyhow (equations u) (arithmetics u) ds ws y) (below_equations b) (below_arithmetics b)

-- What is refuted stays refuted,
refuted_more : (es ds : List Equation) (a : Arithmetic) → Entails ds es → Refuted es a → Refuted ds a
refuted_more es ds a h r = (r.0, known_more es ds a r.0 h r.1, r.2)

-- so with more equations there are no more candidates,
pub candidate_falls : (P : Program) (es ds : List Equation) (q : Path) (g : Term) (c : ℕ) → Entails ds es → Candidate P ds q g c → Candidate P es q g c
candidate_falls P es ds q g c h k =
    let more_of : Entails ((g, head_in P q c) ∷ ds) ((g, head_in P q c) ∷ es) = λ s p. (p.0, h s p.1) in
    (k.0, (k.1.0, more_of k.1.0 k.1.1), λ a i r. k.2 a i (refuted_more ((g, head_in P q c) ∷ es) ((g, head_in P q c) ∷ ds) a more_of r))

-- and a larger tree has no candidate for a call that a smaller one has not.
pub candidates_fall : {P : Program} {ag : Agenda} {t u : Tree P ag} (es ds : List Equation) (gs ws : List Arithmetic) → Below P ag t u
    → Closed t es gs → Closed u ds ws
    → (q : Path) (g : Term) (c : ℕ) → Candidate P ds q g c → Candidate P es q g c
candidates_fall {P} es ds gs ws b x y q g c k = candidate_falls P es ds q g c (closed_grows es ds gs ws b x y) k

-- Picked t u o: the larger tree u has a clause at the open goal o of t. It is above t with o reduced so, and has the equation of head and call, and the guard.
abbrev pub Picked : {P : Program} {ag : Agenda} (t u : Tree P ag) → Open t → Type 0
Picked {P} {ag} t u o = (c : ℕ) × Of P (call_of t o) c × ((k : Of P (call_of t o) c) → Below P ag (reduce t o c k) u)
    × ((s : Substitution) → Solves s (equations u) → apply s (call_of t o) ≡ apply s (head_in P (path t o) c))
    × ((a : Arithmetic) → In a (guard (path t o) (clause_at P c).body) → In a (arithmetics u))

-- Still t u o: the goal is open in u too.
abbrev pub Still : {P : Program} {ag : Agenda} (t u : Tree P ag) → Open t → Type 0
Still t u o = (p : Open u) × (path u p ≡ path t o) × (call_of u p ≡ call_of t o)

-- Each open goal of a smaller tree is the one or the other.
pub picked_or : {P : Program} {ag : Agenda} {t u : Tree P ag} → Below P ag t u → (o : Open t) → Picked t u o ⊎ Still t u o
picked_or both_done o = elim o [ ]
picked_or (both_left b) (inl x) = inr (inl x, refl, refl)
picked_or (both_left b) (inr o) = elim (picked_or b o) [ inl r ↦ inl (r.0, r.1, λ m. both_left (r.2 m), r.3, r.4) | inr p ↦ inr (inr p.0, p.1, p.2) ]
picked_or (both_by c h k b) o = elim (picked_or b o) [ inl r ↦ inl (r.0, r.1, λ m. both_by c h k (r.2 m), λ s p. r.3 s p.1, r.4) | inr p ↦ inr p ]
picked_or {P} (grown {q = q} c h t b) (inl x) =
    inl (c, h, λ k. both_by c k h b, λ s p. p.0, λ a i. below_arithmetics b a (fresh_guard q 0 (clause_at P c).body t a i))
picked_or {P} (grown {q = q} {rest = rest} c h t {u = u} b) (inr o) =
    let items : List Item = (clause_at P c).body in
    let e : call_of (fresh q 0 items t) (lift q 0 items t o) ≡ call_of t o = lift_call q 0 items t o in
    let f : path (fresh q 0 items t) (lift q 0 items t o) ≡ path t o = lift_path q 0 items t o in
    elim (picked_or b (lift q 0 items t o)) [
      | inl r ↦ inl (
        r.0,
        subst (λ g. Of P g r.0) e r.1,
        λ k. let m = lift_reduce q 0 items t o r.0 k in grown c h (reduce t o r.0 k) (subst (λ v. Below P (agenda q 0 items rest) v u) m.1 (r.2 m.0)),
        λ s p. ap (apply s) (sym e) ∙ r.3 s p.1 ∙ ap (λ x. apply s (head_in P x r.0)) f,
        λ a i. r.4 a (subst (λ x. In a (guard x (clause_at P r.0).body)) (sym f) i),
      )
      | inr p ↦ inr (p.0, p.1 ∙ f, p.2 ∙ e)
    ]
picked_or (both_equate b) o = elim (picked_or b o) [ inl r ↦ inl (r.0, r.1, λ m. both_equate (r.2 m), λ s p. r.3 s p.1, r.4) | inr p ↦ inr p ]
picked_or (both_reckon b) o = elim (picked_or b o) [ inl r ↦ inl (r.0, r.1, λ m. both_reckon (r.2 m), r.3, λ a i. inr (r.4 a i)) | inr p ↦ inr p ]

-- In a whole tree each was taken.
pub picked : {P : Program} {ag : Agenda} {t u : Tree P ag} → Below P ag t u → IsWhole u → (o : Open t) → Picked t u o
picked {P} {ag} {t} {u} b w o = elim (picked_or b o) [ inl r ↦ r | inr p ↦ absurd (whole_has_none u w p.0) ]

-- A comparison that is refuted adds the false equation,
pub refuted_added : (a : Arithmetic) (ts : Terms) → refutes a ts ≡ true → added a ts ≡ falsehood ∷ []
refuted_added (is l r) ts e = absurd (cc)
refuted_added (compare r a b) none e = absurd (cc)
refuted_added (compare r a b) (more x none) e = absurd (cc)
refuted_added (compare r a b) (more x (more y ts)) e =
    (elim (holds r x y) as (λ z. not z ≡ true → cond z [] (falsehood ∷ []) ≡ falsehood ∷ []) [ true ↦ λ n. absurd (cc) | false ↦ λ n. refl ]) e

-- which nothing solves.
pub no_falsehood : (s : Substitution) → Solves s (falsehood ∷ []) → ⊥
no_falsehood s p = let e = p.0 in cc

-- the closed equations have a solution
abbrev pub IsConsistent : {P : Program} {ag : Agenda} → Tree P ag → Type 0
IsConsistent u = (ds : List Equation) × (ws : List Arithmetic) × Closed u ds ws × Solvable ds

-- Where the larger tree's closed equations have a solution, the clause that it has at an open goal of the smaller is a candidate there,
pub picked_sound : {P : Program} {ag : Agenda} {t u : Tree P ag} (b : Below P ag t u) → IsConsistent u
    → (o : Open t) (r : Picked t u o) (es : List Equation) (gs : List Arithmetic) → Closed t es gs → CandidateOf t es o r.0
picked_sound {P} {ag} {t} {u} b consistent o r es gs x =
    let (ds, ws, y, so) = consistent in
    let runs : ClosesAnyhow (equations u) (arithmetics u) ds ws = closes_anyhow (equations u) (arithmetics u) ds ws y in
    let keep : Entails ds (equations u) = closing_keeps (equations u) (arithmetics u) ds ws runs in
    let grow : Entails ds es = closed_grows es ds gs ws b x y in
    let g : Term = call_of t o in
    let q : Path = path t o in
    let here : Entails ds ((g, head_in P q r.0) ∷ es) = λ s p. (r.3 s (keep s p), grow s p) in (
      r.1,
      (so.0, here so.0 so.1),
      λ a i f.
          let k : Known ds a f.0 = known_more ((g, head_in P q r.0) ∷ es) ds a f.0 here f.1 in
          let p : Solves so.0 (added a f.0) = closing_ran (equations u) (arithmetics u) ds ws runs a f.0 (r.4 a i) k so.0 so.1 in
          no_falsehood so.0 (rw (refuted_added a f.0 f.2) at p),
    )

-- and so where the larger tree has an outcome.
pub picked_candidate : {P : Program} {ag : Agenda} {t u : Tree P ag} (b : Below P ag t u) (out : HasOutcome u) (o : Open t) (r : Picked t u o)
    (es : List Equation) (gs : List Arithmetic) → Closed t es gs → CandidateOf t es o r.0
picked_candidate b out o r es gs x = picked_sound b (out.0, out.1, out.3, out.4) o r es gs x
