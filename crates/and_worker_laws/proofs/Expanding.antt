-- Tasks of a tree, and those of a tree above it.
use Rattle.std.proofs.Common.{ℕ, ◌≡◌, ◌⊎◌, inl, inr, List, [], ◌∷◌, ◌++◌, refl, sym, subst}
use Rattle.and_model.specs.Terms.{Path, Term}
use Rattle.and_model.specs.Programs.{Program, Arithmetic, clause_at}
use Rattle.and_model.specs.Trees.{Agenda, Tree, Open, path, Below, both_done, both_left, both_by, grown, both_equate, both_reckon}
use Rattle.and_laws.specs.Paths.{At}
use Rattle.and_branch_laws.specs.Tasks.{Task, take, run, tasks, body_tasks}
use Rattle.and_branch_laws.proofs.Tasks.{fresh_tasks}
use Rattle.and_worker_laws.specs.Leaving.{Leaves}

-- Expands P By ts us: each call that a clause took, at its path, stands no more among the tasks; in its place stand those of the clause's body,
-- which are expanded too. The others stay.
pub data Expands (P : Program) (By : Path → ℕ → Type 0) : List Task → List Task → Type 0 where
  over : Expands P By [] []
  runs : (a : Arithmetic) (ts us : List Task) → Expands P By ts us → Expands P By (run a ∷ ts) (run a ∷ us)
  stays : (q : Path) (g : Term) (ts us : List Task) → ((c : ℕ) → By q c → ⊥) → Expands P By ts us → Expands P By (take q g ∷ ts) (take q g ∷ us)
  taken : (q : Path) (g : Term) (c : ℕ) (ts us : List Task) → By q c → Expands P By (body_tasks q 0 (clause_at P c).body ++ ts) us
      → Expands P By (take q g ∷ ts) us

-- The tasks of a tree expand to those of a tree above it, by its clauses.
pub below_expands : {P : Program} {ag : Agenda} (t u : Tree P ag) → Below P ag t u → (By : Path → ℕ → Type 0) → ((p : Path) (d : ℕ) → At u p d → By p d)
    → ((o : Open u) (d : ℕ) → By (path u o) d → ⊥) → Expands P By (tasks t) (tasks u)
below_expands t u both_done By at free = Expands.over
below_expands t u (both_left {q = q} {g = g} {t = s} {u = v} b) By at free =
    Expands.stays q g (tasks s) (tasks v) (λ c h. free (inl tt) c h) (below_expands s v b By at (λ o d h. free (inr o) d h))
below_expands t u (both_by c h k {t = s} {u = v} b) By at free = below_expands s v b By (λ p d i. at p d (inr i)) free
below_expands {P} t u (grown {q = q} {g = g} c h s {u = v} b) By at free =
    Expands.taken q g c (tasks s) (tasks v) (at q c (inl (refl, refl)))
    (subst (λ (l : List Task). Expands P By l (tasks v)) (fresh_tasks q 0 (clause_at P c).body s) (below_expands _ v b By (λ p d i. at p d (inr i)) free))
below_expands t u (both_equate {t = s} {u = v} b) By at free = below_expands s v b By at free
below_expands t u (both_reckon {a = a} {t = s} {u = v} b) By at free = Expands.runs a (tasks s) (tasks v) (below_expands s v b By at free)

leaves_behind : (front ts : List Task) (gone : List Arithmetic) (us : List Task) → Leaves ts gone us → Leaves (front ++ ts) gone (front ++ us)
leaves_behind [] ts gone us l = l
leaves_behind (t ∷ front) ts gone us l = Leaves.stays t (front ++ ts) gone (front ++ us) (leaves_behind front ts gone us l)

-- What is gone before tasks are expanded can go behind.
pub leaves_expanded : (P : Program) (By : Path → ℕ → Type 0) (ts us : List Task) → Expands P By ts us → (gone : List Arithmetic) (vs : List Task)
    → Leaves ts gone vs → (ws : List Task) × Expands P By vs ws × Leaves us gone ws
leaves_expanded P By ts us Expands.over gone vs Leaves.over = ([], Expands.over, Leaves.over)
leaves_expanded P By ts us (Expands.runs a xs ys x) gone vs (Leaves.stays t zs bs cs l) =
    let (ws, y, m) = leaves_expanded P By xs ys x gone cs l in
    (run a ∷ ws, Expands.runs a cs ws y, Leaves.stays (run a) ys gone ws m)
leaves_expanded P By ts us (Expands.runs a xs ys x) gone vs (Leaves.goes b zs bs cs l) =
    let (ws, y, m) = leaves_expanded P By xs ys x bs cs l in
    (ws, y, Leaves.goes a ys bs ws m)
leaves_expanded P By ts us (Expands.stays q g xs ys free x) gone vs (Leaves.stays t zs bs cs l) =
    let (ws, y, m) = leaves_expanded P By xs ys x gone cs l in
    (take q g ∷ ws, Expands.stays q g cs ws free y, Leaves.stays (take q g) ys gone ws m)
leaves_expanded P By ts us (Expands.taken q g c xs ys by x) gone vs (Leaves.stays t zs bs cs l) =
    let body : List Task = body_tasks q 0 (clause_at P c).body in
    let (ws, y, m) = leaves_expanded P By (body ++ xs) ys x gone (body ++ cs) (leaves_behind body xs gone cs l) in
    (ws, Expands.taken q g c cs ws by y, m)

-- ---- The first task

pub record Stays (P : Program) (By : Path → ℕ → Type 0) (t : Task) (ts us : List Task) : Type 0 where
  pub others : List Task
  pub is : us ≡ t ∷ others
  pub more : Expands P By ts others
  pub free : (q : Path) (g : Term) → t ≡ take q g → (c : ℕ) → By q c → ⊥

pub record Taken (P : Program) (By : Path → ℕ → Type 0) (t : Task) (ts us : List Task) : Type 0 where
  pub path : Path
  pub goal : Term
  pub clause : ℕ
  pub is : t ≡ take path goal
  pub by : By path clause
  pub more : Expands P By (body_tasks path 0 (clause_at P clause).body ++ ts) us

-- It stays, or a clause took it.
pub first_cases : (P : Program) (By : Path → ℕ → Type 0) (t : Task) (ts us : List Task) → Expands P By (t ∷ ts) us
    → Stays P By t ts us ⊎ Taken P By t ts us
first_cases P By t ts us (Expands.runs a xs ys x) = inl (record { others = ys; is = refl; more = x; free = λ q g e. absurd (cc) })
first_cases P By t ts us (Expands.stays q g xs ys free x) =
    inl (record { others = ys; is = refl; more = x; free = λ p h e c b. free c (let same : q ≡ p = cc in subst (λ z. By z c) (sym same) b) })
first_cases P By t ts us (Expands.taken q g c xs ys by x) = inr (record { path = q; goal = g; clause = c; is = refl; by = by; more = x })

pub none_expand : (P : Program) (By : Path → ℕ → Type 0) (us : List Task) → Expands P By [] us → us ≡ []
none_expand P By us Expands.over = refl
