-- Each goal that is there stands in the tree of the phase.
use Rattle.std.proofs.Common.{ℕ, ◌+◌, ◌≡◌, List, [], ◌∷◌, ◌++◌, map, refl, ap, sym, subst, inl, inr, arith, Contains}
use Rattle.std.proofs.lemmas.List.Elements.{Contains-append_left, Contains-append_right}
use Rattle.and_model.specs.Terms.{Path, Term, framed}
use Rattle.and_model.specs.Programs.{Program, Item, call, arithmetic, Arithmetic, arithmetic_in, clause_at}
use Rattle.and_model.specs.Candidates.{In}
use Rattle.and_model.specs.Trees.{query_agenda, arithmetics, weight}
use Rattle.and_model.specs.Reductions.{Reduction, reduced}
use Rattle.and_model.specs.Stands.{Framed, item_term, term_of}
use Rattle.and_model.specs.declared.goal.Goal.{Goal}
use Rattle.and_model.specs.declared.reference.Ref.{Ref}
use Rattle.and_cells.specs.Ranges.{NamedProgram}
use Rattle.and_laws.proofs.Ordered.{contains_cases, contains_none}
use Rattle.and_laws.proofs.Placing.{place_more}
use Rattle.and_cells.proofs.Among.{map_among}
use Rattle.and_phase_laws.specs.Journals.{Journal, body_calls, calls, IsOpen, Opening}
use Rattle.and_branch_laws.specs.OwnVariables.{OwnVariables}
use Rattle.and_branch_laws.specs.Tasks.{Task, take, run, tasks, arithmetic_among}
use Rattle.and_branch_laws.specs.Reducing.{goal_at}
use Rattle.and_branch_laws.specs.Kept.{item_at, task_in, task_of, goal_of, is_call, Kept}
use Rattle.and_branch_laws.proofs.Keeping
use Rattle.and_branch_laws.proofs.Places.{clause_more}
use Rattle.and_branch_laws.proofs.Tasks.{tasks_arithmetic}
use Rattle.and_worker_laws.specs.Acts.{Act, takes, reductions, goals_of_body, IsThere, AreTaken}
use Rattle.and_worker_laws.specs.Reading.{AreReadAs}
use Rattle.and_worker_laws.specs.Standing.{Stands}
use Rattle.and_worker_laws.proofs.Bodies.{goal_of_item, item_call, item_arithmetic}
use Rattle.and_worker_laws.proofs.Taking.{HasBody, taken_reduction, body_of}

-- A goal of arithmetic among tasks is among their arithmetic.
among_arithmetic : (ts : List Task) (a : Arithmetic) → Contains ts (run a) → In a (arithmetic_among ts)
among_arithmetic [] a h = absurd (contains_none (run a) h)
among_arithmetic (take q g ∷ ts) a h = elim (contains_cases (take q g) (run a) ts h) [ inl e ↦ absurd (cc) | inr i ↦ among_arithmetic ts a i ]
among_arithmetic (run b ∷ ts) a h = elim (contains_cases (run b) (run a) ts h) [
  | inl e ↦ inl (let same : a ≡ b = cc in same)
  | inr i ↦ inr (among_arithmetic ts a i)
]

-- ---- A goal of the opening

module _ (P : NamedProgram) (own : OwnVariables P) (rs : List Reduction) (first : List Ref) (kept : List Framed)
    (op : Opening P.program (query_agenda P.program)) (k : Kept P rs first kept op.tree) (all : List Reduction)
    (more : (r : Reduction) → Contains rs r → Contains all r) (j : Journal) where
  opening_call : (f : Framed) → Contains kept f → (t : Term) → item_at P.program f.goal ≡ call t
      → IsOpen op.tree (f.frame ++ f.goal.item ∷ []) (framed f.frame (term_of P.program f.goal))
  opening_call f h t e = Keeping.kept_open P own rs first kept op.tree k f h (ap (λ (i : Item). is_call (task_in P.program f i)) e)

  opening_arithmetic : (f : Framed) → Contains kept f → (a : Arithmetic) → item_at P.program f.goal ≡ arithmetic a
      → In (arithmetic_in f.frame a) (arithmetics op.tree)
  opening_arithmetic f h a e =
      let task : task_of P.program f ≡ run (arithmetic_in f.frame a) = ap (λ (i : Item). task_in P.program f i) e in
      subst (λ l. In (arithmetic_in f.frame a) l) (tasks_arithmetic op.tree)
      (among_arithmetic (tasks op.tree) (arithmetic_in f.frame a)
      (subst (λ x. Contains (tasks op.tree) x) task (Keeping.task_kept P own rs first kept op.tree k f h)))

  kept_stands : (f : Framed) → Contains kept f → Stands op all j f.goal
  kept_stands f h = record {
    path = f.frame;
    place = place_more rs all more f.goal.node f.frame (Keeping.place_of P own rs first kept op.tree k f h);
    clause = clause_more rs all more f.goal.node f.goal.clause.0 (Keeping.clause_of P own rs first kept op.tree k f h);
    based = Keeping.base_of P own rs first kept op.tree k f h;
    call = λ t e. inl (opening_call f h t e);
    arithmetic = λ a e. inl (opening_arithmetic f h a e);
  }

  opening_stands : (g : Goal) → Contains (map goal_of kept) g → Stands op all j g
  opening_stands g h =
      let (f, at, same) = map_among goal_of g kept h in
      subst (λ (x : Goal). Stands op all j x) same (kept_stands f at)

-- ---- A goal of a body

module _ {P : Program} (op : Opening P (query_agenda P)) (all : List Reduction) (j : Journal) (r : Reduction) (h : Contains all r) (b : HasBody P all j r) where
  body_call : (i : ℕ) (t : Term) → item_at P (goal_at r.clause r.node [] i).goal ≡ call t
      → Contains (calls P j) ((b.parent ++ r.item ∷ []) ++ i ∷ [], framed (b.parent ++ r.item ∷ []) (term_of P (goal_at r.clause r.node [] i).goal))
  body_call i t e =
      let q : Path = b.parent ++ r.item ∷ [] in
      let term : t ≡ term_of P (goal_at r.clause r.node [] i).goal = ap item_term (sym e) in
      let count : 0 + i ≡ i = omega arith in
      b.has_calls (q ++ i ∷ []) (framed q (term_of P (goal_at r.clause r.node [] i).goal))
      (subst (λ n. Contains (body_calls q 0 (clause_at P r.clause).body) (q ++ n ∷ [], framed q (term_of P (goal_at r.clause r.node [] i).goal))) count
      (subst (λ u. Contains (body_calls q 0 (clause_at P r.clause).body) (q ++ (0 + i) ∷ [], framed q u)) term
      (item_call q 0 (clause_at P r.clause).body i t e)))

  item_stands : (i : ℕ) → Stands op all j (goal_at r.clause r.node [] i).goal
  item_stands i = record {
    path = b.parent ++ r.item ∷ [];
    place = reduced r b.parent h b.place;
    clause = inr (r, h, refl, refl);
    based = refl;
    call = λ t e. inr (body_call i t e);
    arithmetic = λ a e. inr (b.has_goals (arithmetic_in (b.parent ++ r.item ∷ []) a)
        (item_arithmetic (b.parent ++ r.item ∷ []) (clause_at P r.clause).body i a e));
  }

  body_stands : (g : Goal) → Contains (goals_of_body P r) g → Stands op all j g
  body_stands g c =
      let (i, same) = goal_of_item r.clause r.node 0 (clause_at P r.clause).body g c in
      subst (λ (x : Goal). Stands op all j x) (sym same) (item_stands i)

-- ---- Each of both

pub standing_among : (P : NamedProgram) → OwnVariables P → (rs : List Reduction) (first : List Ref) (kept : List Framed)
    (op : Opening P.program (query_agenda P.program)) → Kept P rs first kept op.tree → (apart : Path) (all : List Reduction)
    → ((r : Reduction) → Contains rs r → Contains all r) → (acts : List Act) → ((r : Reduction) → Contains (reductions acts) r → Contains all r)
    → (j : Journal) → AreTaken P.program (map goal_of kept) (weight op.tree) acts → AreReadAs P.program all apart acts j
    → (g : Goal) → IsThere P.program (map goal_of kept) acts g → Stands op all j g
standing_among P own rs first kept op k apart all more acts new j t a g (inl h) = opening_stands P own rs first kept op k all more j g h
standing_among P own rs first kept op k apart all more acts new j t a g (inr b) =
    let (w, h, r, at, c) = b in
    body_stands op all j r (new r (taken_reduction acts w h r at))
    (body_of P.program (map goal_of kept) (weight op.tree) all apart acts j t a w h r at) g c

reductions_front : (front acts : List Act) (r : Reduction) → Contains (reductions acts) r → Contains (reductions (front ++ acts)) r
reductions_front [] acts r h = h
reductions_front (takes w g s ∷ front) acts r h = Contains-append_left (reductions (front ++ acts)) (s ∷ []) r (reductions_front front acts r h)
reductions_front (Act.sets w e ∷ front) acts r h = reductions_front front acts r h
reductions_front (Act.fails w ∷ front) acts r h = reductions_front front acts r h

pub standing : (P : NamedProgram) → OwnVariables P → (rs : List Reduction) (first : List Ref) (kept : List Framed)
    (op : Opening P.program (query_agenda P.program)) → Kept P rs first kept op.tree → (apart : Path) (whole front acts : List Act) (j : Journal)
    → whole ≡ front ++ acts → AreTaken P.program (map goal_of kept) (weight op.tree) acts
    → AreReadAs P.program (rs ++ reductions whole) apart acts j
    → (g : Goal) → IsThere P.program (map goal_of kept) acts g → Stands op (rs ++ reductions whole) j g
standing P own rs first kept op k apart whole front acts j e t a g h =
    standing_among P own rs first kept op k apart (rs ++ reductions whole) (λ r i. Contains-append_left rs (reductions whole) r i) acts
    (λ r i. Contains-append_right rs (reductions whole) r (subst (λ (l : List Act). Contains (reductions l) r) (sym e) (reductions_front front acts r i)))
    j t a g h
