-- The steps of a branch: reductions are Steps, and what has no solution or no candidate is dead.
use Rattle.std.proofs.Common.{ℕ, ◌≡◌, List, [], ◌∷◌, ◌++◌, length, map, append-nil, refl, sym, ◌∙◌, subst, inl, inr, Contains}
use Rattle.std.proofs.lemmas.List.Elements.{Contains-append_right}
use Rattle.and_model.specs.Terms.{Path, Term, Substitution}
use Rattle.and_model.specs.Solutions.{Equation, Solves, Solvable, Entails}
use Rattle.and_model.specs.Programs.{Item, call, equal, arithmetic, fail, Arithmetic, clause_at, clause_weight, Of}
use Rattle.and_model.specs.Candidates.{Candidate}
use Rattle.and_model.specs.Trees.{QueryTree, Open, path, call_of, reduce, equations, arithmetics, Closed}
use Rattle.and_model.specs.Reached.{CandidateOf, Step, Dead}
use Rattle.and_model.specs.Reductions.{Reduction}
use Rattle.and_model.specs.Stands.{Framed, in_tree, term_of}
use Rattle.and_model.specs.declared.reference.Ref.{Ref}
use Rattle.and_laws.proofs.Agreement.{query_apart}
use Rattle.and_laws.proofs.Closing.{closed_entails_ran}
use Rattle.and_laws.proofs.Deciding.{closes_total}
use Rattle.and_laws.proofs.Picking.{candidate_falls}
use Rattle.and_laws.proofs.Solving.{solves_back}
use Rattle.and_laws.proofs.Ordered.{contains_first, contains_cases, contains_none}
use Rattle.and_laws.proofs.OpenPaths.{one_open}
use Rattle.and_cells.specs.Ranges.{NamedProgram}
use Rattle.and_cells.specs.Meaning.{equations_of}
use Rattle.and_branch_laws.specs.OwnVariables.{IsLoaded}
use Rattle.and_branch_laws.specs.Variables.{placed}
use Rattle.and_branch_laws.specs.Tasks.{Task, arithmetic_among}
use Rattle.and_branch_laws.specs.Reducing.{body_equations, reduction_in_cells, reduction_by, body_goals}
use Rattle.and_branch_laws.specs.Settling.{widened, Settled}
use Rattle.and_branch_laws.specs.Kept.{task_of, IsCall, Kept}
use Rattle.and_branch_laws.proofs.Naming.{OneMore}
use Rattle.and_branch_laws.proofs.Tasks.{tree_ran}
use Rattle.and_branch_laws.proofs.Keeping
use Rattle.and_branch_laws.proofs.Reducing

-- ---- Candidates

module _ (P : NamedProgram) (loaded : IsLoaded P) (rs : List Reduction) (row : List Ref) (kept : List Framed) (tree : QueryTree P.program)
    (k : Kept P rs row kept tree) where
  -- Every closure of the tree has what was solved.
  pub closure_solves : (es : List Equation) (gs : List Arithmetic) → Closed tree es gs → Entails es k.solved
  closure_solves es gs closed =
      let left : List Task = map (task_of P.program) kept in
      closed_entails_ran (equations tree) (arithmetics tree) k.solved (arithmetic_among left) es gs
      (tree_ran tree k.solved left k.ran) closed

  module _ (f : Framed) (h : Contains kept f) (called : IsCall P.program f) (o : Open tree)
      (path_is : path tree o ≡ f.frame ++ f.goal.item ∷ []) where
    -- the open goal's call
    pub call_is : call_of tree o ≡ in_tree P.program f
    call_is =
        let (found, paths, calls) = Keeping.kept_open P loaded.own rs row kept tree k f h called in
        let same : found ≡ o = one_open tree found o (query_apart P.program) (paths ∙ sym path_is) in
        subst (λ (x : Open tree). call_of tree x ≡ in_tree P.program f) same calls

    -- A candidate under closed equations is one in the cells.
    pub candidate_in_cells : (fresh : Path) → (fresh ≡ [] → ⊥) → (es : List Equation) (gs : List Arithmetic) → Closed tree es gs → (d : ℕ)
        → CandidateOf tree es o d
        → Candidate P.program (equations_of P row) fresh (placed f.goal.base (term_of P.program f.goal)) d
    candidate_in_cells fresh no_cell es gs closed d x =
        let p : Path = f.frame ++ f.goal.item ∷ [] in
        let there : Candidate P.program es p (in_tree P.program f) d =
        subst (λ (q : Path). Candidate P.program es q (in_tree P.program f) d) path_is
        (subst (λ (t : Term). Candidate P.program es (path tree o) t d) call_is x) in
        let fallen : Candidate P.program k.solved p (in_tree P.program f) d = candidate_falls P.program k.solved es p
        (in_tree P.program f) d (closure_solves es gs closed) there in
        (Keeping.candidates_of_cells P loaded.own rs row kept tree k f h called fresh no_cell d).0 fallen

    -- Where no other clause is a candidate in the cells, reducing by the clause is a Step.
    pub sole_steps : (fresh : Path) → (fresh ≡ [] → ⊥) → (c : ℕ) (of_it : Of P.program (call_of tree o) c)
        → ((d : ℕ) → Candidate P.program (equations_of P row) fresh (placed f.goal.base (term_of P.program f.goal)) d → d ≡ c)
        → Step tree (reduce tree o c of_it)
    sole_steps fresh no_cell c of_it only =
        let (es, gs, closed) = closes_total (equations tree) (arithmetics tree) in
        (es, gs, closed, o, c, of_it, refl, λ d x. only d (candidate_in_cells fresh no_cell es gs closed d x))

    -- Where none is one, the tree is dead.
    pub none_is_dead : (fresh : Path) → (fresh ≡ [] → ⊥)
        → ((d : ℕ) → Candidate P.program (equations_of P row) fresh (placed f.goal.base (term_of P.program f.goal)) d → ⊥) → Dead tree
    none_is_dead fresh no_cell none_is =
        let (es, gs, closed) = closes_total (equations tree) (arithmetics tree) in
        (es, gs, closed, inr (o, λ d x. none_is d (candidate_in_cells fresh no_cell es gs closed d x)))

-- Nothing solves the equations of a body with `fail`.
pub body_fails : (put : Term → Term) (s : Substitution) (items : List Item) → Contains items fail → Solves s (body_equations put items) → ⊥
body_fails put s [] h p = contains_none fail h
body_fails put s (call a ∷ items) h p =
    elim (contains_cases (call a) fail items h) [ inl e ↦ absurd (cc) | inr i ↦ body_fails put s items i p ]
body_fails put s (equal a b ∷ items) h p =
    elim (contains_cases (equal a b) fail items h) [ inl e ↦ absurd (cc) | inr i ↦ body_fails put s items i p.1 ]
body_fails put s (arithmetic a ∷ items) h p =
    elim (contains_cases (arithmetic a) fail items h) [ inl e ↦ absurd (cc) | inr i ↦ body_fails put s items i p ]
body_fails put s (fail ∷ items) h p = let bad = p.0 in cc

-- ---- Reductions

module _ (P : NamedProgram) (loaded : IsLoaded P) (rs : List Reduction) (row : List Ref) (front : List Framed) (f : Framed)
    (back : List Framed) (tree : QueryTree P.program)
    (k : Kept P rs row (front ++ f ∷ back) tree) (called : IsCall P.program f) (o : Open tree)
    (path_is : path tree o ≡ f.frame ++ f.goal.item ∷ [])
    (c : ℕ) (of_it : Of P.program (call_of tree o) c) where
  kept : List Framed
  kept = front ++ f ∷ back

  f_kept : Contains (front ++ f ∷ back) f
  f_kept = Contains-append_right front (f ∷ back) f (contains_first f back)

  behind_none : Kept P (rs ++ []) row (front ++ f ∷ back) tree
  behind_none = subst (λ (l : List Reduction). Kept P l row (front ++ f ∷ back) tree) (sym (append-nil rs)) k

  abbrev last : Reduction
  last = reduction_by f.goal c (length row)

  abbrev one_more : OneMore P.program
  one_more = let b = behind_none in record {
    front = rs;
    back = [];
    tree = tree;
    last = reduction_by f.goal c (length row);
    goal = o;
    fits = of_it;
    made = b.made;
    call = (f.frame, Keeping.place_of P loaded.own (rs ++ []) row (front ++ f ∷ back) tree b f f_kept, path_is);
    number = b.long;
  }

  call_there : call_of tree o ≡ in_tree P.program f
  call_there = call_is P loaded rs row (front ++ f ∷ back) tree k f f_kept called o path_is

  -- What a branch keeps after a reduction, whose reduction comes last, and whose goals come in the place of the call.
  pub reductions_keep : (new : List Ref)
      → Settled P (widened row (clause_weight (clause_at P.program c))) new (reduction_in_cells P.program f.goal c (length row))
      → Kept P (rs ++ reduction_by f.goal c (length row) ∷ []) new
      (front ++ (body_goals c (length row) (f.frame ++ f.goal.item ∷ []) 0 (clause_at P.program c).body ++ back))
      (reduce tree o c of_it)
  reductions_keep new x =
      subst (λ (q : Path). Kept P (rs ++ reduction_by f.goal c (length row) ∷ []) new
      (front ++ (body_goals c (length row) q 0 (clause_at P.program c).body ++ back)) (reduce tree o c of_it)) path_is
      (Reducing.reduced_kept P loaded one_more row front f back behind_none called path_is call_there refl new x)

  -- Where the cells have no solution with it, the tree is dead,
  pub unsolved_reductions_die :
      (Solvable (equations_of P (widened row (clause_weight (clause_at P.program c))) ++ reduction_in_cells P.program f.goal c
      (length row)) → ⊥) → Dead (reduce tree o c of_it)
  unsolved_reductions_die none_is =
      Reducing.unsolved_is_dead P loaded one_more row front f back behind_none called path_is call_there refl none_is

  -- as it is where the body has `fail`.
  pub failing_bodies_die : Contains (clause_at P.program c).body fail → Dead (reduce tree o c of_it)
  failing_bodies_die has =
      let wide : List Ref = widened row (clause_weight (clause_at P.program c)) in
      unsolved_reductions_die
      (λ so. body_fails (placed (length row)) so.0 (clause_at P.program c).body has
      (solves_back so.0 (equations_of P wide) (reduction_in_cells P.program f.goal c (length row)) so.1).1)
