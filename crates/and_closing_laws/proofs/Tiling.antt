-- Reductions whose frames stand side by side.
use Rattle.std.proofs.Common.{ℕ, ◌≡◌, ◌<◌, ◌≤◌, ◌+◌, List, [], ◌∷◌, ◌++◌, Contains, refl, ap, sym, subst, ◌∙◌, inl, inr, arith}
use Rattle.and_model.specs.Programs.{Program, Clause, clause_at, clause_weight}
use Rattle.and_model.specs.Reductions.{Reduction}
use Rattle.and_branch_laws.proofs.Clauses.{clause_weighs_more}
use Rattle.and_store_laws.proofs.Lists.{contains_first, contains_more, contains_cases, contains_none}

pub weighs : (k : Clause) → 0 < clause_weight k
weighs k = let w = clause_weighs_more k in omega arith

-- The first reduction stands at the node, each other one where the frame of the one before it ends, and the last frame ends there.
abbrev pub Stand : Program → (node : ℕ) → List Reduction → (end : ℕ) → Type 0
Stand P node [] stop = stop ≡ node
Stand P node (r ∷ rs) stop = (r.node ≡ node) × Stand P (node + clause_weight (clause_at P r.clause)) rs stop

-- One more stands at the end.
pub stand_push : (P : Program) (node : ℕ) (rs : List Reduction) (stop : ℕ) (r : Reduction) → Stand P node rs stop → r.node ≡ stop
    → Stand P node (rs ++ r ∷ []) (stop + clause_weight (clause_at P r.clause))
stand_push P node [] stop r t e = (e ∙ t, ap (λ (n : ℕ). n + clause_weight (clause_at P r.clause)) t)
stand_push P node (x ∷ rs) stop r t e = (t.0, stand_push P (node + clause_weight (clause_at P x.clause)) rs stop r t.1 e)

-- All stand from the node on.
pub stand_from : (P : Program) (node : ℕ) (rs : List Reduction) (stop : ℕ) → Stand P node rs stop → (r : Reduction) → Contains rs r → node ≤ r.node
stand_from P node [] stop t r h = absurd (contains_none r h)
stand_from P node (x ∷ rs) stop t r h = elim (contains_cases x r rs h) [
  | inl is ↦ (let a = ap (λ (y : Reduction). y.node) is in let b = t.0 in omega arith)
  | inr later ↦ (let a = stand_from P (node + clause_weight (clause_at P x.clause)) rs stop t.1 r later in omega arith)
]

-- One of those that stand at the node is the first.
first_at : (P : Program) (node : ℕ) (x : Reduction) (rs : List Reduction) (stop : ℕ) → Stand P node (x ∷ rs) stop → (r : Reduction) → Contains (x ∷ rs) r
    → r.node ≡ node → r ≡ x
first_at P node x rs stop t r h e = elim (contains_cases x r rs h) [
  | inl is ↦ is
  | inr later ↦ (let a = stand_from P (node + clause_weight (clause_at P x.clause)) rs stop t.1 r later in let b = weighs (clause_at P x.clause) in
      absurd (omega arith))
]

-- One that stands behind the first is one of the others.
behind_first : (P : Program) (node : ℕ) (x : Reduction) (rs : List Reduction) (r : Reduction) → x.node ≡ node → Contains (x ∷ rs) r
    → node + clause_weight (clause_at P x.clause) ≤ r.node → Contains rs r
behind_first P node x rs r e h low = elim (contains_cases x r rs h) [
  | inl is ↦ (let a = ap (λ (y : Reduction). y.node) is in let b = weighs (clause_at P x.clause) in absurd (omega arith))
  | inr later ↦ later
]

-- Two lists that stand so from one node on, and have the same reductions, are one.
pub stand_same : (P : Program) (node : ℕ) (rs qs : List Reduction) (stop far : ℕ) → Stand P node rs stop → Stand P node qs far
    → ((r : Reduction) → Contains rs r → Contains qs r) → ((r : Reduction) → Contains qs r → Contains rs r) → (rs ≡ qs) × (stop ≡ far)
stand_same P node [] [] stop far t u to from = (refl, t ∙ sym u)
stand_same P node [] (q ∷ qs) stop far t u to from = absurd (contains_none q (from q (contains_first q qs)))
stand_same P node (r ∷ rs) [] stop far t u to from = absurd (contains_none r (to r (contains_first r rs)))
stand_same P node (r ∷ rs) (q ∷ qs) stop far t u to from =
    let e : r ≡ q = first_at P node q qs far u r (to r (contains_first r rs)) t.0 in
    let next : ℕ = node + clause_weight (clause_at P r.clause) in
    let behind : Stand P next qs far = subst (λ (x : Reduction). Stand P (node + clause_weight (clause_at P x.clause)) qs far) (sym e) u.1 in
    let low : node + clause_weight (clause_at P q.clause) ≡ next = ap (λ (x : Reduction). node + clause_weight (clause_at P x.clause)) (sym e) in
    let rest = stand_same P next rs qs stop far t.1 behind
    (λ x h. behind_first P node q qs x u.0 (to x (contains_more r x rs h)) (let a = stand_from P next rs stop t.1 x h in omega arith))
    (λ x h. behind_first P node r rs x t.0 (from x (contains_more q x qs h)) (stand_from P next qs far behind x h)) in
    (ap (λ (x : Reduction). x ∷ rs) e ∙ ap (λ (xs : List Reduction). q ∷ xs) rest.0, rest.1)
