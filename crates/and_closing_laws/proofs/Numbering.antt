-- Acts whose reductions stand side by side.
use Rattle.std.proofs.Common.{ℕ, ◌≡◌, ◌<◌, ◌≤◌, ◌+◌, List, [], ◌∷◌, ◌++◌, Contains, refl, ap, sym, subst, inl, inr, arith}
use Rattle.std.proofs.lemmas.List.Elements.{Contains-append_left, Contains-append_right, Contains-append_cases}
use Rattle.and_model.specs.Programs.{Program, clause_at, clause_weight}
use Rattle.and_model.specs.Reductions.{Reduction}
use Rattle.and_model.specs.declared.goal.Goal.{Goal}
use Rattle.and_store_laws.proofs.Lists.{contains_first, contains_more, contains_cases, contains_none}
use Rattle.and_worker_laws.specs.Acts.{Act, takes, sets, fails, reductions, weight_taken, IsTaken, AreTaken}
use Rattle.and_closing_laws.proofs.Tiling.{Stand, stand_push, weighs}

-- Each reduction stands where those before it end.
abbrev pub AreNumbered : Program → (used : ℕ) → List Act → Type 0
AreNumbered P used [] = Unit {0}
AreNumbered P used (takes w g r ∷ before) = (r.node ≡ used + weight_taken P before) × AreNumbered P used before
AreNumbered P used (sets w e ∷ before) = AreNumbered P used before
AreNumbered P used (fails w ∷ before) = AreNumbered P used before

pub numbered_stand : (P : Program) (used : ℕ) (acts : List Act) → AreNumbered P used acts → Stand P used (reductions acts) (used + weight_taken P acts)
numbered_stand P used [] n = let e : used + 0 ≡ used = omega arith in e
numbered_stand P used (takes w g r ∷ before) n =
    let e : used + weight_taken P before + clause_weight (clause_at P r.clause) ≡ used + (clause_weight (clause_at P r.clause) + weight_taken P before) =
    omega arith in
    subst (Stand P used (reductions before ++ r ∷ [])) e
    (stand_push P used (reductions before) (used + weight_taken P before) r (numbered_stand P used before n.1) n.0)
numbered_stand P used (sets w e ∷ before) n = numbered_stand P used before n
numbered_stand P used (fails w ∷ before) n = numbered_stand P used before n

-- ---- the reductions of acts

pub taken_listed : (acts : List Act) (w : ℕ) (g : Goal) (r : Reduction) → Contains acts (takes w g r) → Contains (reductions acts) r
taken_listed [] w g r h = absurd (contains_none (takes w g r) h)
taken_listed (takes v k s ∷ before) w g r h = elim (contains_cases (takes v k s) (takes w g r) before h) [
  | inl is ↦ (let e : r ≡ s = cc in
      Contains-append_right (reductions before) (s ∷ []) r (subst (Contains (s ∷ [])) (sym e) (contains_first s [])))
  | inr there ↦ Contains-append_left (reductions before) (s ∷ []) r (taken_listed before w g r there)
]
taken_listed (sets v e ∷ before) w g r h = elim (contains_cases (sets v e) (takes w g r) before h) [
  | inl is ↦ absurd (cc)
  | inr there ↦ taken_listed before w g r there
]
taken_listed (fails v ∷ before) w g r h = elim (contains_cases (fails v) (takes w g r) before h) [
  | inl is ↦ absurd (cc)
  | inr there ↦ taken_listed before w g r there
]

pub listed_taken : (acts : List Act) (r : Reduction) → Contains (reductions acts) r → (w : ℕ) × (g : Goal) × Contains acts (takes w g r)
listed_taken [] r h = absurd (contains_none r h)
listed_taken (takes v k s ∷ before) r h = elim (Contains-append_cases (reductions before) (s ∷ []) r h) [
  | inl there ↦ (let x = listed_taken before r there in (x.0, x.1, contains_more (takes v k s) (takes x.0 x.1 r) before x.2))
  | inr last ↦ elim (contains_cases s r [] last) [
    | inl is ↦ (v, k, subst (λ (q : Reduction). Contains (takes v k s ∷ before) (takes v k q)) (sym is) (contains_first (takes v k s) before))
    | inr none ↦ absurd (contains_none r none)
  ]
]
listed_taken (sets v e ∷ before) r h = let x = listed_taken before r h in (x.0, x.1, contains_more (sets v e) (takes x.0 x.1 r) before x.2)
listed_taken (fails v ∷ before) r h = let x = listed_taken before r h in (x.0, x.1, contains_more (fails v) (takes x.0 x.1 r) before x.2)

-- ---- what came before

weighs_more : (P : Program) (front back : List Act) → weight_taken P back ≤ weight_taken P (front ++ back)
weighs_more P [] back = omega arith
weighs_more P (takes w g r ∷ front) back = let m = weighs_more P front back in omega arith
weighs_more P (sets w e ∷ front) back = weighs_more P front back
weighs_more P (fails w ∷ front) back = weighs_more P front back

pub numbered_back : (P : Program) (used : ℕ) (front back : List Act) → AreNumbered P used (front ++ back) → AreNumbered P used back
numbered_back P used [] back n = n
numbered_back P used (takes w g r ∷ front) back n = numbered_back P used front back n.1
numbered_back P used (sets w e ∷ front) back n = numbered_back P used front back n
numbered_back P used (fails w ∷ front) back n = numbered_back P used front back n

-- One that stands at a smaller node came before.
pub came_before : (P : Program) (used : ℕ) (front : List Act) (w : ℕ) (g : Goal) (r : Reduction) (before : List Act)
    → AreNumbered P used (front ++ takes w g r ∷ before) → (v : ℕ) (k : Goal) (s : Reduction) → Contains (front ++ takes w g r ∷ before) (takes v k s)
    → s.node < r.node → Contains before (takes v k s)
came_before P used [] w g r before n v k s h low = elim (contains_cases (takes w g r) (takes v k s) before h) [
  | inl is ↦ (let e : s ≡ r = cc in let same = ap (λ (x : Reduction). x.node) e in absurd (omega arith))
  | inr there ↦ there
]
came_before P used (takes u j q ∷ front) w g r before n v k s h low =
    elim (contains_cases (takes u j q) (takes v k s) (front ++ takes w g r ∷ before) h) [
      | inl is ↦ (let e : s ≡ q = cc in let same = ap (λ (x : Reduction). x.node) e in
          let here = (numbered_back P used front (takes w g r ∷ before) n.1).0 in
          let more = weighs_more P front (takes w g r ∷ before) in let later = n.0 in absurd (omega arith))
      | inr there ↦ came_before P used front w g r before n.1 v k s there low
    ]
came_before P used (sets u e ∷ front) w g r before n v k s h low = elim (contains_cases (sets u e) (takes v k s) (front ++ takes w g r ∷ before) h) [
  | inl is ↦ absurd (cc)
  | inr there ↦ came_before P used front w g r before n v k s there low
]
came_before P used (fails u ∷ front) w g r before n v k s h low = elim (contains_cases (fails u) (takes v k s) (front ++ takes w g r ∷ before) h) [
  | inl is ↦ absurd (cc)
  | inr there ↦ came_before P used front w g r before n v k s there low
]

-- Those before it stand at smaller nodes.
pub stood_before : (P : Program) (used : ℕ) (before : List Act) → AreNumbered P used before → (v : ℕ) (k : Goal) (s : Reduction)
    → Contains before (takes v k s) → s.node < used + weight_taken P before
stood_before P used [] n v k s h = absurd (contains_none (takes v k s) h)
stood_before P used (takes u j q ∷ before) n v k s h = elim (contains_cases (takes u j q) (takes v k s) before h) [
  | inl is ↦ (let e : s ≡ q = cc in let same = ap (λ (x : Reduction). x.node) e in let at = n.0 in let some = weighs (clause_at P q.clause) in omega arith)
  | inr there ↦ (let a = stood_before P used before n.1 v k s there in omega arith)
]
stood_before P used (sets u e ∷ before) n v k s h = elim (contains_cases (sets u e) (takes v k s) before h) [
  | inl is ↦ absurd (cc)
  | inr there ↦ stood_before P used before n v k s there
]
stood_before P used (fails u ∷ before) n v k s h = elim (contains_cases (fails u) (takes v k s) before h) [
  | inl is ↦ absurd (cc)
  | inr there ↦ stood_before P used before n v k s there
]

-- What holds of each reduction holds of all.
pub each_taken : (P : Program) (goals : List Goal) (used : ℕ) (acts : List Act)
    → ((front before : List Act) (w : ℕ) (g : Goal) (r : Reduction) → acts ≡ front ++ takes w g r ∷ before → IsTaken P goals used before g r)
    → AreTaken P goals used acts
each_taken P goals used [] f = tt
each_taken P goals used (takes w g r ∷ before) f =
    (f [] before w g r refl, each_taken P goals used before (λ front b v k s e. f (takes w g r ∷ front) b v k s (ap (λ (xs : List Act). takes w g r ∷ xs) e)))
each_taken P goals used (sets w d ∷ before) f =
    each_taken P goals used before (λ front b v k s e. f (sets w d ∷ front) b v k s (ap (λ (xs : List Act). sets w d ∷ xs) e))
each_taken P goals used (fails w ∷ before) f =
    each_taken P goals used before (λ front b v k s e. f (fails w ∷ front) b v k s (ap (λ (xs : List Act). fails w ∷ xs) e))
