-- Arithmetic whose terms are ground in the cells is known in the tree, and where it is run a branch keeps what a branch keeps.
use Rattle.std.proofs.Common.{ℕ, ◌+◌, ◌≡◌, true, List, [], ◌∷◌, map, refl, sym, ap, ◌∙◌, subst, inl, inr, Contains}
use Rattle.std.proofs.lemmas.Option.{same_Some}
use Rattle.and_model.specs.Terms.{Path, Term, Terms, variable, none, more, variables_of, is_ground, are_ground, Substitution, apply}
use Rattle.and_model.specs.Terms.{apply_all, framed}
use Rattle.and_model.specs.Solutions.{Equation, Solves, Entails, falsehood}
use Rattle.and_model.specs.Programs.{Program, Item, arithmetic, Arithmetic, is, compare, arithmetic_in, clause_at}
use Rattle.and_model.specs.Closure.{needs, added, Known}
use Rattle.and_model.specs.Candidates.{In}
use Rattle.and_model.specs.Trees.{Agenda, Tree, QueryTree, done, left, by, equate, reckon, equations, arithmetics, Closed}
use Rattle.and_model.specs.Reached.{Dead}
use Rattle.and_model.specs.Reductions.{Reduction}
use Rattle.and_model.specs.Stands.{Framed}
use Rattle.and_model.specs.OwnVariables.{IsOwn}
use Rattle.and_model.specs.declared.reference.Ref.{Ref}
use Rattle.and_model.specs.declared.reference.Ref.TheVariants.{Cell}
use Rattle.and_laws.proofs.Closing.{known_more, closes_anyhow, closing_ran, closed_entails_ran}
use Rattle.and_laws.proofs.Deciding.{closes_total}
use Rattle.and_laws.proofs.Ordered.{contains_cases, contains_none}
use Rattle.and_laws.proofs.Substitutions.{then, apply_then, apply_ground, and_left, and_right}
use Rattle.and_cells.specs.Ranges.{NamedProgram}
use Rattle.and_cells.specs.Meaning.{StandsFor, equations_of}
use Rattle.and_cells.proofs.OneTerm.{apply_agree}
use Rattle.and_cell_laws.proofs.TermsOfRows.{value_of_term}
use Rattle.and_branch_laws.specs.OwnVariables.{OwnVariables}
use Rattle.and_branch_laws.specs.Variables.{SpeaksOf, ArithmeticSpeaksOf, IsVariable, placed, cells_from}
use Rattle.and_branch_laws.specs.Tasks.{Task, take, run, tasks, arithmetic_among}
use Rattle.and_branch_laws.specs.Running.{IsRead, AreRead}
use Rattle.and_branch_laws.specs.Kept.{item_at, task_in, task_of, Kept}
use Rattle.and_branch_laws.proofs.Speaking.{back_again, speaks_applied, speaks_variable}
use Rattle.and_branch_laws.proofs.Growing.{body_is_own}
use Rattle.and_branch_laws.proofs.Owning.{ItemSpeaksOf, item_speaks}
use Rattle.and_branch_laws.proofs.Tasks.{tree_ran}
use Rattle.and_branch_laws.proofs.Keeping
use Rattle.and_branch_laws.proofs.Reading.{row_general, row_solution, row_reading, cell_read}

-- ---- What a goal needs

-- in a frame, it needs its terms in the frame
needs_framed : (q : Path) (a : Arithmetic) → needs (arithmetic_in q a) ≡ apply_all (λ r k. variable q k) (needs a)
needs_framed q (is l r) = refl
needs_framed q (compare o a b) = refl

-- all terms of a list speak of these
abbrev TermsSpeakOf : (Path × ℕ → Type 0) → Terms → Type 0
TermsSpeakOf V none = Unit {0}
TermsSpeakOf V (more t ts) = SpeaksOf V t × TermsSpeakOf V ts

needs_speak : (V : Path × ℕ → Type 0) (a : Arithmetic) → ArithmeticSpeaksOf V a → TermsSpeakOf V (needs a)
needs_speak V (is l r) s = (s.1, tt)
needs_speak V (compare o a b) s = (s.0, (s.1, tt))

-- A goal of arithmetic among a tree's tasks is one of its arithmetic.
arithmetic_of_task : {P : Program} {ag : Agenda} (t : Tree P ag) (a : Arithmetic) → Contains (tasks t) (run a) → In a (arithmetics t)
arithmetic_of_task done a h = absurd (contains_none (run a) h)
arithmetic_of_task (left {q = q} {g = g} t) a h =
    elim (contains_cases (take q g) (run a) (tasks t) h) [ inl e ↦ absurd (cc) | inr i ↦ arithmetic_of_task t a i ]
arithmetic_of_task (by d k t) a h = arithmetic_of_task t a h
arithmetic_of_task (equate t) a h = arithmetic_of_task t a h
arithmetic_of_task (reckon {a = b} t) a h =
    elim (contains_cases (run b) (run a) (tasks t) h)
    [ inl e ↦ inl (let same : a ≡ b = cc in same) | inr i ↦ inr (arithmetic_of_task t a i) ]

module _ (P : NamedProgram) (own : OwnVariables P) (rs : List Reduction) (row : List Ref) (kept : List Framed)
    (tree : QueryTree P.program) (k : Kept P rs row kept tree)
    (f : Framed) (h : Contains kept f) (a : Arithmetic) (item : item_at P.program f.goal ≡ arithmetic a) where
  pub goal_speaks : ArithmeticSpeaksOf (IsOwn (clause_at P.program f.goal.clause.0).variables) a
  goal_speaks =
      let c = clause_at P.program f.goal.clause.0 in
      subst (λ (i : Item). ItemSpeaksOf (IsOwn c.variables) i) item
      (item_speaks c.variables c.body (body_is_own P own f.goal.clause.0) f.goal.item)

  -- a term of the goal speaks, in the frame, of the tree's variables
  pub framed_speaks : (t : Term) → SpeaksOf (IsOwn (clause_at P.program f.goal.clause.0).variables) t
      → SpeaksOf (IsVariable P rs) (framed f.frame t)
  framed_speaks t s =
      speaks_applied (IsOwn (clause_at P.program f.goal.clause.0).variables) (IsVariable P rs) (λ r n. variable f.frame n) t
      (λ v o. speaks_variable (IsVariable P rs) f.frame v.1 (record {
        node = f.goal.node;
        clause = f.goal.clause.0;
        place = Keeping.place_of P own rs row kept tree k f h;
        clause_is = Keeping.clause_of P own rs row kept tree k f h;
        own = o.1;
      })) s

  pub task_is : Contains (tasks tree) (run (arithmetic_in f.frame a))
  task_is = subst (λ x. Contains (tasks tree) x) (ap (λ (i : Item). task_in P.program f i) item)
      (Keeping.task_kept P own rs row kept tree k f h)

  abbrev back : Substitution
  back = Keeping.back_of P own rs row kept tree k

  -- What reads as a ground term is that in every solution of the tree's equations.
  read_known : (s : Substitution) → Solves s k.solved → (t u : Term) → SpeaksOf (IsOwn (clause_at P.program f.goal.clause.0).variables) t
      → IsRead P row f.goal.base t u → is_ground u ≡ true
      → apply s (framed f.frame t) ≡ u
  read_known s p t u speaks r ground =
      let d : Substitution = then back s in
      let solves : Solves d (equations_of P row) = Keeping.to_row P own rs row kept tree k s p in
      let cells : (v : Path × ℕ) → Contains (variables_of t) v → d [] (f.goal.base + 1 + v.1) ≡ apply d (r.values v.0 v.1) =
      λ v c. same_Some (d [] (f.goal.base + 1 + v.1)) (apply d (r.values v.0 v.1))
      (value_of_term P row d (Cell (f.goal.base + 1 + v.1)) (r.values v.0 v.1) solves (r.cells v c)) in
      let in_cells : apply d (placed f.goal.base t) ≡ u =
      apply_then (cells_from f.goal.base) d t ∙ apply_agree (then (cells_from f.goal.base) d) (then r.values d) t cells
      ∙ sym (apply_then r.values d t) ∙ ap (apply d) (sym r.reads) ∙ apply_ground d u ground in
      let in_frame : apply s (framed f.frame t) ≡ apply d (placed f.goal.base t) =
      ap (apply s) (sym (back_again (IsVariable P rs) k.names back (framed f.frame t) (Keeping.lead_back P own rs row kept tree k)
      (framed_speaks t speaks)))
      ∙ apply_then back s (apply k.names (framed f.frame t)) ∙ ap (apply d) (Keeping.named_in_cells P own rs row kept tree k f h t) in
      in_frame ∙ in_cells

  all_read_known : (s : Substitution) → Solves s k.solved → (ts us : Terms)
      → TermsSpeakOf (IsOwn (clause_at P.program f.goal.clause.0).variables) ts → AreRead P row f.goal.base ts us → are_ground us ≡ true
      → apply_all s (apply_all (λ r n. variable f.frame n) ts) ≡ us
  all_read_known s p none none speaks r ground = refl
  all_read_known s p none (more u us) speaks r ground = absurd r
  all_read_known s p (more t ts) none speaks r ground = absurd r
  all_read_known s p (more t ts) (more u us) speaks r ground =
      ap (λ (x : Term). more x (apply_all s (apply_all (λ r n. variable f.frame n) ts)))
      (read_known s p t u speaks.0 r.0 (and_left (is_ground u) (are_ground us) ground))
      ∙ ap (λ (xs : Terms). more u xs) (all_read_known s p ts us speaks.1 r.1 (and_right (is_ground u) (are_ground us) ground))

  -- So the goal is known in the tree.
  pub known_in_tree : (us : Terms) → AreRead P row f.goal.base (needs a) us → are_ground us ≡ true
      → Known k.solved (arithmetic_in f.frame a) us
  known_in_tree us r ground = (
    ground,
    λ s p. ap (apply_all s) (needs_framed f.frame a)
        ∙ all_read_known s p (needs a) us (needs_speak (IsOwn (clause_at P.program f.goal.clause.0).variables) a goal_speaks) r ground,
  )

  -- ---- And the other way round: a goal that is known in the tree reads as ground terms

  -- what the row's solution makes of a term in the cells is what is read
  solution_reads : (t : Term) → SpeaksOf (IsOwn (clause_at P.program f.goal.clause.0).variables) t
      → IsRead P row f.goal.base t (apply (row_solution P own rs row kept tree k) (placed f.goal.base t))
  solution_reads t speaks = record {
    values = λ q n. row_reading P own rs row kept tree k f.goal.base n;
    cells = λ v c.
        let i : IsVariable P rs (f.frame, v.1) = record {
          node = f.goal.node;
          clause = f.goal.clause.0;
          place = Keeping.place_of P own rs row kept tree k f h;
          clause_is = Keeping.clause_of P own rs row kept tree k f h;
          own = (speaks v c).1;
        } in
        subst (λ (n : ℕ). StandsFor P row (Cell (n + 1 + v.1)) (row_reading P own rs row kept tree k n v.1))
        (sym (Keeping.base_of P own rs row kept tree k f h)) (cell_read P own rs row kept tree k (f.frame, v.1) i);
    reads = apply_then (cells_from f.goal.base) (row_solution P own rs row kept tree k) t;
  }

  solutions_read : (ts : Terms) → TermsSpeakOf (IsOwn (clause_at P.program f.goal.clause.0).variables) ts
      → AreRead P row f.goal.base ts
      (apply_all (then k.names (row_solution P own rs row kept tree k)) (apply_all (λ r n. variable f.frame n) ts))
  solutions_read none speaks = tt
  solutions_read (more t ts) speaks =
      let z : Substitution = row_solution P own rs row kept tree k in
      let same : apply z (placed f.goal.base t) ≡ apply (then k.names z) (framed f.frame t) =
      ap (apply z) (sym (Keeping.named_in_cells P own rs row kept tree k f h t)) ∙ apply_then k.names z (framed f.frame t) in
      (subst (λ (u : Term). IsRead P row f.goal.base t u) same (solution_reads t speaks.0), solutions_read ts speaks.1)

  pub known_in_cells : (us : Terms) → Known k.solved (arithmetic_in f.frame a) us → AreRead P row f.goal.base (needs a) us
  known_in_cells us known =
      let z : Substitution = row_solution P own rs row kept tree k in
      let g = row_general P own rs row kept tree k in
      let solves : Solves (then k.names z) k.solved = Keeping.to_solved P own rs row kept tree k z g.most_general.0 in
      let same : apply_all (then k.names z) (apply_all (λ r n. variable f.frame n) (needs a)) ≡ us =
      ap (apply_all (then k.names z)) (sym (needs_framed f.frame a)) ∙ known.1 (then k.names z) solves in
      subst (λ (x : Terms). AreRead P row f.goal.base (needs a) x) same
      (solutions_read (needs a) (needs_speak (IsOwn (clause_at P.program f.goal.clause.0).variables) a goal_speaks))

  -- ---- What is false makes the tree dead

  -- Every closure of the tree has what a known goal adds.
  pub closure_has : (us : Terms) → Known k.solved (arithmetic_in f.frame a) us → (es : List Equation) (gs : List Arithmetic)
      → Closed tree es gs → Entails es (added (arithmetic_in f.frame a) us)
  closure_has us known es gs closed =
      let left : List Task = map (task_of P.program) kept in
      let has : Entails es k.solved = closed_entails_ran (equations tree) (arithmetics tree) k.solved (arithmetic_among left) es gs
      (tree_ran tree k.solved left k.ran) closed in
      closing_ran (equations tree) (arithmetics tree) es gs (closes_anyhow (equations tree) (arithmetics tree) es gs closed)
      (arithmetic_in f.frame a) us
      (arithmetic_of_task tree (arithmetic_in f.frame a) task_is) (known_more k.solved es (arithmetic_in f.frame a) us has known)

  pub false_is_dead : (us : Terms) → Known k.solved (arithmetic_in f.frame a) us → added (arithmetic_in f.frame a) us ≡ falsehood ∷ []
      → Dead tree
  false_is_dead us known e =
      let (es, gs, closed) = closes_total (equations tree) (arithmetics tree) in (
        es,
        gs,
        closed,
        inl (λ so. let p : Solves so.0 (falsehood ∷ []) = subst (λ (l : List Equation). Solves so.0 l) e
            (closure_has us known es gs closed so.0 so.1) in let bad = p.0 in cc),
      )
