-- A clause is tried in a frame that nothing speaks of; whichever that is, and whatever names the other variables have.
use Rattle.std.proofs.Common.{ℕ, ◌≡◌, true, List, [], ◌∷◌, refl, ap, sym, ◌∙◌, subst}
use Rattle.std.proofs.Common.{inl, inr}
use Rattle.and_model.specs.Terms.{Path, Term, Terms, variable, number, compound, none, more, Substitution, apply, apply_all, framed}
use Rattle.and_model.specs.Solutions.{Equation, Solves, falsehood}
use Rattle.and_model.specs.Arithmetic.{Relation}
use Rattle.and_model.specs.Programs.{Program, Item, call, equal, arithmetic, fail, Arithmetic, is, compare, clause_at, head_in, Of}
use Rattle.and_model.specs.Closure.{needs, refutes}
use Rattle.and_model.specs.Candidates.{In, guard, Candidate}
use Rattle.and_laws.specs.Naming.{Variables, IsOver, EquationsOver, others, Agree, under}
use Rattle.and_laws.proofs.AgreeOn.{agree_term, agree_solves, patched, patched_agrees, patched_others, over_framed}
use Rattle.and_laws.proofs.ClausesOf.{of_applied}
use Rattle.and_laws.proofs.Substitutions.{then, apply_then}

abbrev first_in : List Equation → Equation
first_in [] = falsehood
first_in (e ∷ es) = e

abbrev rest_in : List Equation → List Equation
rest_in [] = []
rest_in (e ∷ es) = es

mutual
  same_framed : (s r : Substitution) (q p : Path) → ((k : ℕ) → r p k ≡ s q k) → (t : Term) → apply r (framed p t) ≡ apply s (framed q t)
  same_framed s r q p h (variable f k) = h k
  same_framed s r q p h (number z) = refl
  same_framed s r q p h (compound c ts) = ap (compound c) (same_all_framed s r q p h ts)

  same_all_framed : (s r : Substitution) (q p : Path) → ((k : ℕ) → r p k ≡ s q k) → (ts : Terms)
      → apply_all r (apply_all (λ f k. variable p k) ts) ≡ apply_all s (apply_all (λ f k. variable q k) ts)
  same_all_framed s r q p h none = refl
  same_all_framed s r q p h (more t ts) =
      ap (λ x. more x (apply_all r (apply_all (λ f k. variable p k) ts))) (same_framed s r q p h t)
      ∙ ap (λ xs. more (apply s (framed q t)) xs) (same_all_framed s r q p h ts)

-- a guard's comparison in the one frame, and the same in the other
record Twin (q p : Path) (items : List Item) (a : Arithmetic) : Type 0 where
  pub twin : Arithmetic
  pub is_in : In twin (guard q items)
  pub refuted : (ts : Terms) → refutes a ts ≡ true → refutes twin ts ≡ true
  pub same : (s r : Substitution) → ((k : ℕ) → r p k ≡ s q k) → apply_all r (needs a) ≡ apply_all s (needs twin)

same_refutes : (r : Relation) (a b c d : Term) (ts : Terms) → refutes (compare r a b) ts ≡ true → refutes (compare r c d) ts ≡ true
same_refutes r a b c d none e = e
same_refutes r a b c d (more x none) e = e
same_refutes r a b c d (more x (more y ts)) e = e

twin_of : (q p : Path) (items : List Item) (a : Arithmetic) → In a (guard p items) → Twin q p items a
twin_of q p [] a i = elim i [ ]
twin_of q p (call g ∷ items) a i = elim i [ ]
twin_of q p (equal b c ∷ items) a i = elim i [ ]
twin_of q p (fail ∷ items) a i = elim i [ ]
twin_of q p (arithmetic (is l r) ∷ items) a i = elim i [ ]
twin_of q p (arithmetic (compare m b c) ∷ items) a (inl e) = subst (λ x. Twin q p (arithmetic (compare m b c) ∷ items) x) (sym e) (record {
  twin = compare m (framed q b) (framed q c);
  is_in = inl refl;
  refuted = λ ts h. same_refutes m (framed p b) (framed p c) (framed q b) (framed q c) ts h;
  same = λ s r h. same_all_framed s r q p h (more b (more c none));
})
twin_of q p (arithmetic (compare m b c) ∷ items) a (inr i) =
    let t : Twin q p items a = twin_of q p items a i in
    record { twin = t.twin; is_in = inr t.is_in; refuted = t.refuted; same = t.same }

-- What solves the one equations makes something that solves the others, and gives the new clause's variables the same.
abbrev Goes : List Equation → List Equation → Path → Path → Type 0
Goes es ds q p = (s : Substitution) → Solves s es → (r : Substitution) × Solves r ds × ((k : ℕ) → r p k ≡ s q k)

-- Then a candidate of the one call is one of the other.
candidate_moved : (P : Program) (es ds : List Equation) (q p : Path) (g h : Term) (c : ℕ) → Goes ((g, head_in P q c) ∷ es) ((h, head_in P p c) ∷ ds) q p
    → Of P h c → Candidate P es q g c → Candidate P ds p h c
candidate_moved P es ds q p g h c goes of k =
    let items : List Item = (clause_at P c).body in
    let found = goes k.1.0 k.1.1 in (
      of,
      (found.0, found.1),
      λ a i x.
          let t : Twin q p items a = twin_of q p items a i in
          k.2 t.twin t.is_in (x.0, (x.1.0, λ s y. (let r = goes s y in sym (t.same s r.0 r.2) ∙ x.1.1 r.0 r.1)), t.refuted x.0 x.2),
    )

-- A candidate in a frame is one in each frame that neither the equations nor the call speak of.
pub candidate_fresh : (P : Program) (es : List Equation) (f : Variables) (q p : Path) (g : Term) (c : ℕ) → ((k : ℕ) → f p k ≡ true)
    → EquationsOver (others f) es → IsOver (others f) g → Candidate P es q g c → Candidate P es p g c
candidate_fresh P es f q p g c all o og k =
    let goes : Goes ((g, head_in P q c) ∷ es) ((g, head_in P p c) ∷ es) q p =
    λ s h. (
    let moved : Substitution = patched f (λ r n. s q n) s in
    let same : (n : ℕ) → moved p n ≡ s q n = λ n. patched_agrees f (λ r m. s q m) s p n (all n) in (
      moved,
      (
        agree_term (others f) s moved (patched_others f (λ r n. s q n) s) g og ∙ h.0 ∙ sym (same_framed s moved q p same (clause_at P c).head),
        agree_solves (others f) s moved (patched_others f (λ r n. s q n) s) es o h.1,
      ),
      same,
    )) in
    candidate_moved P es es q p g g c goes k.0 k

-- terms that are renamed, and named back
named_back : (f : Variables) (r back s u : Substitution) → Agree (others f) (then back s) u → (t : Term) → IsOver (others f) (apply r t)
    → apply back (apply r t) ≡ t
    → apply u (apply r t) ≡ apply s t
named_back f r back s u h t o e = agree_term (others f) (then back s) u h (apply r t) o ∙ sym (apply_then back s (apply r t)) ∙ ap (apply s) e

solves_renamed : (f : Variables) (r back s u : Substitution) → Agree (others f) (then back s) u → (es : List Equation) → EquationsOver (others f) (under r es)
    → under back (under r es) ≡ es → Solves s es → Solves u (under r es)
solves_renamed f r back s u h [] o e p = tt
solves_renamed f r back s u h (x ∷ es) o e p =
    let left : apply back (apply r x.0) ≡ x.0 = ap (λ (xs : List Equation). (first_in xs).0) e in
    let right : apply back (apply r x.1) ≡ x.1 = ap (λ (xs : List Equation). (first_in xs).1) e in
    let rest : under back (under r es) ≡ es = ap (λ (xs : List Equation). rest_in xs) e in
    (named_back f r back s u h x.0 o.0 left ∙ p.0 ∙ sym (named_back f r back s u h x.1 o.1 right), solves_renamed f r back s u h es o.2 rest p.1)

-- A candidate stays one where the variables of the equations and of the call are renamed, if the frame is spoken of by neither afterwards.
pub candidate_renamed : (P : Program) (es : List Equation) (r back : Substitution) (f : Variables) (q : Path) (g : Term) (c : ℕ) → ((k : ℕ) → f q k ≡ true)
    → EquationsOver (others f) (under r es) → IsOver (others f) (apply r g) → under back (under r es) ≡ es → apply back (apply r g) ≡ g
    → Candidate P es q g c → Candidate P (under r es) q (apply r g) c
candidate_renamed P es r back f q g c all o og e eg k =
    let goes : Goes ((g, head_in P q c) ∷ es) ((apply r g, head_in P q c) ∷ under r es) q q =
    λ s h. (
    let u : Substitution = patched f s (then back s) in
    let other : Agree (others f) (then back s) u = patched_others f s (then back s) in
    let own : Agree f s u = patched_agrees f s (then back s) in (
      u,
      (
        named_back f r back s u other g og eg ∙ h.0 ∙ sym (agree_term f s u own (head_in P q c) (over_framed f q all (clause_at P c).head)),
        solves_renamed f r back s u other es o e h.1,
      ),
      λ n. own q n (all n),
    )) in
    candidate_moved P es (under r es) q q g (apply r g) c goes (of_applied P r g c k.0) k
