-- Acts that take calls, and the frames that they are in a phase's journal.
use Rattle.std.proofs.Common.{ℕ, ◌+◌, ◌≡◌, List, [], ◌∷◌, ◌++◌, refl, ap, sym, subst, ◌∙◌, inl, inr, Contains}
use Rattle.std.proofs.lemmas.List.Elements.{Contains-append_left, Contains-append_right, Contains-append_cases}
use Rattle.and_model.specs.Terms.{Path, Term, framed}
use Rattle.and_model.specs.Programs.{Program, Arithmetic, clause_at, clause_weight}
use Rattle.and_model.specs.Candidates.{In}
use Rattle.and_model.specs.Reductions.{Reduction, PlaceHas}
use Rattle.and_model.specs.Stands.{term_of}
use Rattle.and_model.specs.declared.goal.Goal.{Goal}
use Rattle.and_laws.proofs.Ordered.{contains_first, contains_more, contains_cases, contains_none}
use Rattle.and_laws.proofs.Placing.{place_more}
use Rattle.and_phase_laws.specs.Journals.{Entry, frame, setting, failing, Journal, body_calls, body_arithmetics, calls, goals}
use Rattle.and_phase_laws.specs.Writing.{weights}
use Rattle.and_worker_laws.specs.Acts.{Act, takes, sets, fails, reductions, weight_taken, IsTaken, AreTaken}
use Rattle.and_worker_laws.specs.Reading.{AreReadAs}

-- A reduction is one of the acts' where some act takes a call by it.
pub taken_reduction : (acts : List Act) (w : ℕ) (h : Goal) (r : Reduction) → Contains acts (takes w h r) → Contains (reductions acts) r
taken_reduction [] w h r i = absurd (contains_none (takes w h r) i)
taken_reduction (takes v g s ∷ before) w h r i = elim (contains_cases (takes v g s) (takes w h r) before i) [
  | inl e ↦
      let same : r ≡ s = cc in
      subst (λ (x : Reduction). Contains (reductions before ++ s ∷ []) x) (sym same)
      (Contains-append_right (reductions before) (s ∷ []) s (contains_first s []))
  | inr k ↦ Contains-append_left (reductions before) (s ∷ []) r (taken_reduction before w h r k)
]
taken_reduction (sets v e ∷ before) w h r i = elim (contains_cases (sets v e) (takes w h r) before i) [
  | inl e ↦ absurd (cc)
  | inr k ↦ taken_reduction before w h r k
]
taken_reduction (fails v ∷ before) w h r i = elim (contains_cases (fails v) (takes w h r) before i) [
  | inl e ↦ absurd (cc)
  | inr k ↦ taken_reduction before w h r k
]

pub reduction_taken : (acts : List Act) (r : Reduction) → Contains (reductions acts) r → (w : ℕ) × (h : Goal) × Contains acts (takes w h r)
reduction_taken [] r i = absurd (contains_none r i)
reduction_taken (takes v g s ∷ before) r i = elim (Contains-append_cases (reductions before) (s ∷ []) r i) [
  | inl k ↦ let (w, h, at) = reduction_taken before r k in (w, h, contains_more (takes v g s) (takes w h r) before at)
  | inr k ↦ elim (contains_cases s r [] k) [
    | inl e ↦ (v, g, subst (λ (x : Reduction). Contains (takes v g s ∷ before) (takes v g x)) (sym e) (contains_first (takes v g s) before))
    | inr n ↦ absurd (contains_none r n)
  ]
]
reduction_taken (sets v e ∷ before) r i = let (w, h, at) = reduction_taken before r i in (w, h, contains_more (sets v e) (takes w h r) before at)
reduction_taken (fails v ∷ before) r i = let (w, h, at) = reduction_taken before r i in (w, h, contains_more (fails v) (takes w h r) before at)

-- Of each reduction that was done it is known what had been done before it.
pub taken_at : (P : Program) (opening : List Goal) (used : ℕ) (acts : List Act) → AreTaken P opening used acts → (w : ℕ) (g : Goal) (r : Reduction)
    → Contains acts (takes w g r)
    → (before : List Act) × ((a : Act) → Contains before a → Contains acts a) × IsTaken P opening used before g r
taken_at P opening used [] t w g r i = absurd (contains_none (takes w g r) i)
taken_at P opening used (takes v h s ∷ before) t w g r i = elim (contains_cases (takes v h s) (takes w g r) before i) [
  | inl e ↦
      let goals : h ≡ g = cc in
      let reductions : s ≡ r = cc in
      let here : IsTaken P opening used before g r =
      subst (λ x. IsTaken P opening used before x r) goals (subst (λ x. IsTaken P opening used before h x) reductions t.0) in
      (before, λ a k. contains_more (takes v h s) a before k, here)
  | inr k ↦
      let (earlier, among, x) = taken_at P opening used before t.1 w g r k in
      (earlier, λ a j. contains_more (takes v h s) a before (among a j), x)
]
taken_at P opening used (sets v e ∷ before) t w g r i = elim (contains_cases (sets v e) (takes w g r) before i) [
  | inl same ↦ absurd (cc)
  | inr k ↦
      let (earlier, among, x) = taken_at P opening used before t w g r k in
      (earlier, λ a j. contains_more (sets v e) a before (among a j), x)
]
taken_at P opening used (fails v ∷ before) t w g r i = elim (contains_cases (fails v) (takes w g r) before i) [
  | inl same ↦ absurd (cc)
  | inr k ↦
      let (earlier, among, x) = taken_at P opening used before t w g r k in
      (earlier, λ a j. contains_more (fails v) a before (among a j), x)
]

-- More reductions read the acts as the same journal.
pub read_more : (P : Program) (rs qs : List Reduction) → ((r : Reduction) → Contains rs r → Contains qs r) → (apart : Path) (acts : List Act) (j : Journal)
    → AreReadAs P rs apart acts j → AreReadAs P qs apart acts j
read_more P rs qs f apart [] [] a = tt
read_more P rs qs f apart [] (e ∷ j) a = a
read_more P rs qs f apart (x ∷ acts) [] a = a
read_more P rs qs f apart (takes w g r ∷ acts) (e ∷ j) a = ((a.0.0, place_more rs qs f g.node a.0.0 a.0.1, a.0.2), read_more P rs qs f apart acts j a.1)
read_more P rs qs f apart (sets w d ∷ acts) (e ∷ j) a = (a.0, read_more P rs qs f apart acts j a.1)
read_more P rs qs f apart (fails w ∷ acts) (e ∷ j) a = (a.0, read_more P rs qs f apart acts j a.1)

-- The journal weighs what the acts do.
pub weights_read : (P : Program) (rs : List Reduction) (apart : Path) (acts : List Act) (j : Journal) → AreReadAs P rs apart acts j
    → weights P j ≡ weight_taken P acts
weights_read P rs apart [] [] a = refl
weights_read P rs apart [] (e ∷ j) a = absurd a
weights_read P rs apart (x ∷ acts) [] a = absurd a
weights_read P rs apart (takes w g r ∷ acts) (e ∷ j) a =
    ap (λ (x : Entry). weights P (x ∷ j)) a.0.2 ∙ ap (λ n. clause_weight (clause_at P r.clause) + n) (weights_read P rs apart acts j a.1)
weights_read P rs apart (sets w d ∷ acts) (e ∷ j) a = ap (λ (x : Entry). weights P (x ∷ j)) a.0 ∙ weights_read P rs apart acts j a.1
weights_read P rs apart (fails w ∷ acts) (e ∷ j) a = ap (λ (x : Entry). weights P (x ∷ j)) a.0 ∙ weights_read P rs apart acts j a.1

-- Where a reduction's call stood, and the calls and the arithmetic of its body, which are the journal's.
pub record HasBody (P : Program) (rs : List Reduction) (j : Journal) (r : Reduction) : Type 0 where
  pub parent : Path
  pub place : PlaceHas rs r.parent parent
  pub has_calls : (q : Path) (t : Term) → Contains (body_calls (parent ++ r.item ∷ []) 0 (clause_at P r.clause).body) (q, t) → Contains (calls P j) (q, t)
  pub has_goals : (a : Arithmetic) → In a (body_arithmetics (parent ++ r.item ∷ []) (clause_at P r.clause).body) → In a (goals P j)

in_front : (xs ys : List Arithmetic) (a : Arithmetic) → In a xs → In a (xs ++ ys)
in_front [] ys a i = absurd i
in_front (x ∷ xs) ys a (inl e) = inl e
in_front (x ∷ xs) ys a (inr i) = inr (in_front xs ys a i)

in_back : (xs ys : List Arithmetic) (a : Arithmetic) → In a ys → In a (xs ++ ys)
in_back [] ys a i = i
in_back (x ∷ xs) ys a i = inr (in_back xs ys a i)

-- An entry more takes away no body,
body_behind : (P : Program) (rs : List Reduction) (j : Journal) (e : Entry) (r : Reduction) → HasBody P rs j r → HasBody P rs (e ∷ j) r
body_behind P rs j (frame v q t c) r b = record {
  parent = b.parent;
  place = b.place;
  has_calls = λ p u i. Contains-append_right (body_calls q 0 (clause_at P c).body) (calls P j) (p, u) (b.has_calls p u i);
  has_goals = λ a i. in_back (body_arithmetics q (clause_at P c).body) (goals P j) a (b.has_goals a i);
}
body_behind P rs j (Entry.run v a ts) r b = record { parent = b.parent; place = b.place; has_calls = b.has_calls; has_goals = b.has_goals }
body_behind P rs j (setting v e) r b = record { parent = b.parent; place = b.place; has_calls = b.has_calls; has_goals = b.has_goals }
body_behind P rs j (failing v) r b = record { parent = b.parent; place = b.place; has_calls = b.has_calls; has_goals = b.has_goals }

-- and a frame has its own.
body_here : (P : Program) (opening : List Goal) (used : ℕ) (rs : List Reduction) (before : List Act) (j : Journal) (w : ℕ) (g : Goal) (r : Reduction)
    (e : Entry) → IsTaken P opening used before g r → (p : Path) → PlaceHas rs g.node p → e ≡ frame w (p ++ g.item ∷ []) (framed p (term_of P g)) r.clause
    → HasBody P rs (e ∷ j) r
body_here P opening used rs before j w g r e t p place is_frame =
    let items : p ++ g.item ∷ [] ≡ p ++ r.item ∷ [] = ap (λ (n : ℕ). p ++ n ∷ []) (sym t.item) in
    let here : e ≡ frame w (p ++ r.item ∷ []) (framed p (term_of P g)) r.clause =
    is_frame ∙ ap (λ (q : Path). frame w q (framed p (term_of P g)) r.clause) items in
    subst (λ (x : Entry). HasBody P rs (x ∷ j) r) (sym here) (record {
      parent = p;
      place = subst (λ (n : ℕ). PlaceHas rs n p) (sym t.parent) place;
      has_calls = λ q u i. Contains-append_left (body_calls (p ++ r.item ∷ []) 0 (clause_at P r.clause).body) (calls P j) (q, u) i;
      has_goals = λ a i. in_front (body_arithmetics (p ++ r.item ∷ []) (clause_at P r.clause).body) (goals P j) a i;
    })

-- So the bodies of all reductions are the journal's.
pub body_of : (P : Program) (opening : List Goal) (used : ℕ) (rs : List Reduction) (apart : Path) (acts : List Act) (j : Journal)
    → AreTaken P opening used acts → AreReadAs P rs apart acts j → (w : ℕ) (h : Goal) (r : Reduction) → Contains acts (takes w h r)
    → HasBody P rs j r
body_of P opening used rs apart [] j t a w h r i = absurd (contains_none (takes w h r) i)
body_of P opening used rs apart (x ∷ acts) [] t a w h r i = absurd a
body_of P opening used rs apart (takes v g s ∷ acts) (e ∷ j) t a w h r i = elim (contains_cases (takes v g s) (takes w h r) acts i) [
  | inl is_here ↦
      let same : r ≡ s = cc in
      subst (λ (y : Reduction). HasBody P rs (e ∷ j) y) (sym same) (body_here P opening used rs acts j v g s e t.0 a.0.0 a.0.1 a.0.2)
  | inr k ↦ body_behind P rs j e r (body_of P opening used rs apart acts j t.1 a.1 w h r k)
]
body_of P opening used rs apart (sets v d ∷ acts) (e ∷ j) t a w h r i = elim (contains_cases (sets v d) (takes w h r) acts i) [
  | inl is_here ↦ absurd (cc)
  | inr k ↦ body_behind P rs j e r (body_of P opening used rs apart acts j t a.1 w h r k)
]
body_of P opening used rs apart (fails v ∷ acts) (e ∷ j) t a w h r i = elim (contains_cases (fails v) (takes w h r) acts i) [
  | inl is_here ↦ absurd (cc)
  | inr k ↦ body_behind P rs j e r (body_of P opening used rs apart acts j t a.1 w h r k)
]
