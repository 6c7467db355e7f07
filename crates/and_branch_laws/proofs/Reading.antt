-- What is read in the cells of a branch, and that the branch stands for its key.
use Rattle.std.proofs.Common.{ℕ, zero, suc, ◌≡◌, ◌+◌, ◌<◌, not, cond, List, [], ◌∷◌, ◌++◌, map, length, arith, refl, ap, sym, ◌∙◌, subst}
use Rattle.std.proofs.Common.{inl, inr, Contains}
use Rattle.std.specs.Prelude.{All}
use Rattle.std.proofs.lemmas.List.{map-append}
use Rattle.std.proofs.lemmas.List.Elements.{All-append, All-filter, All-map, Contains-append_cases}
use Rattle.and_model.specs.Terms.{Path, Term, variable, variables_of, Substitution, apply, framed}
use Rattle.and_model.specs.Solutions.{Solves, MostGeneral}
use Rattle.and_model.specs.Programs.{Program, Item, call, equal, arithmetic, fail, Arithmetic, is, compare, arithmetic_in, clause_at}
use Rattle.and_model.specs.Trees.{QueryTree, equations, decided}
use Rattle.and_model.specs.Reached.{ReachedBy}
use Rattle.and_model.specs.Prefixes.{IsPrefix}
use Rattle.and_model.specs.Reductions.{Reduction, query}
use Rattle.and_model.specs.Stands.{Framed, IsFramed, in_tree, term_of, item_term, call_in_tree, numbers_below, AreVariants, IsLive}
use Rattle.and_model.specs.Lines.{goal_term}
use Rattle.and_model.specs.declared.goal.Goal.{Goal}
use Rattle.and_model.specs.declared.reference.Ref.{Ref}
use Rattle.and_model.specs.declared.reference.Ref.TheVariants.{Cell}
use Rattle.and_laws.specs.Outcomes.{Covers}
use Rattle.and_laws.proofs.Unifying.{unify}
use Rattle.and_laws.proofs.Ordered.{contains_first, contains_more, contains_cases, contains_none}
use Rattle.and_laws.proofs.Substitutions.{Through, apply_through, then, apply_then}
use Rattle.and_cells.specs.Ranges.{NamedProgram}
use Rattle.and_cells.specs.Meaning.{StandsFor, equations_of}
use Rattle.and_cells.specs.Solved.{IsMostGeneral}
use Rattle.and_cell_laws.proofs.TermsOfRows.{rows_with_terms_are_solutions}
use Rattle.and_cell_laws.proofs.Settling.{settled_rows_have_terms}
use Rattle.and_branch_laws.specs.OwnVariables.{OwnVariables}
use Rattle.and_branch_laws.specs.Variables.{SpeaksOf, IsVariable, cells_from}
use Rattle.and_branch_laws.specs.Tasks.{Task, tasks, calls_among, arithmetic_among}
use Rattle.and_branch_laws.specs.Views.{View, IsReadIn, branch_of, StandsIn}
use Rattle.and_branch_laws.specs.Kept.{item_at, task_in, task_of, is_call, goal_of, calls_kept, arithmetic_kept, Kept, KeptIn}
use Rattle.and_branch_laws.proofs.Speaking.{back_again, speaks_variable, speaks_applied}
use Rattle.and_branch_laws.proofs.Places.{frame_within}
use Rattle.and_branch_laws.proofs.Naming.{variables_fit}
use Rattle.and_branch_laws.proofs.Growing.{query_variable}
use Rattle.and_branch_laws.proofs.Tasks.{ran_calls, tasks_calls, tree_ran}
use Rattle.and_branch_laws.proofs.Lists.{all_of, filter_contains}
use Rattle.and_branch_laws.proofs.Owning.{term_speaks}
use Rattle.and_branch_laws.proofs.Keeping

-- ---- Lists

-- what a substitution makes of a list, element by element
pub mapped : {X : Type 0} (r : Substitution) (f g : X → Term) (xs : List X) → ((x : X) → Contains xs x → apply r (f x) ≡ g x)
    → map (apply r) (map f xs) ≡ map g xs
mapped r f g [] h = refl
mapped r f g (x ∷ xs) h = ap (λ (t : Term). t ∷ map (apply r) (map f xs)) (h x (contains_first x xs))
    ∙ ap (λ (l : List Term). g x ∷ l) (mapped r f g xs (λ y c. h y (contains_more x y xs c)))

pub below_cases : (n k : ℕ) → Contains (numbers_below n) k → k < n
below_cases zero k h = absurd (contains_none k h)
below_cases (suc n) k h = elim (Contains-append_cases (numbers_below n) (n ∷ []) k h) [
  | inl i ↦ let l = below_cases n k i in omega arith
  | inr i ↦ elim (contains_cases n k [] i) [ inl e ↦ omega arith | inr none ↦ absurd (contains_none k none) ]
]

-- ---- The kept goals are calls and arithmetic

calls_step : (P : Program) (f : Framed) (i : Item) (kept rest : List Framed)
    → map (call_in_tree P) rest ≡ calls_among (map (task_of P) kept)
    → map (call_in_tree P) (cond (is_call (task_in P f i)) (f ∷ rest) rest) ≡ calls_among (task_in P f i ∷ map (task_of P) kept)
calls_step P f (call g) kept rest e = ap (λ (l : List (Path × Term)). call_in_tree P f ∷ l) e
calls_step P f (equal a b) kept rest e = ap (λ (l : List (Path × Term)). call_in_tree P f ∷ l) e
calls_step P f (arithmetic a) kept rest e = e
calls_step P f fail kept rest e = ap (λ (l : List (Path × Term)). call_in_tree P f ∷ l) e

pub calls_are : (P : Program) (kept : List Framed) → map (call_in_tree P) (calls_kept P kept) ≡ calls_among (map (task_of P) kept)
calls_are P [] = refl
calls_are P (f ∷ kept) = calls_step P f (item_at P f.goal) kept (calls_kept P kept) (calls_are P kept)

goal_in_tree : (q : Path) (a : Arithmetic) → framed q (goal_term a) ≡ goal_term (arithmetic_in q a)
goal_in_tree q (is l r) = refl
goal_in_tree q (compare o a b) = refl

arithmetic_step : (P : Program) (f : Framed) (i : Item) (kept rest : List Framed) → item_at P f.goal ≡ i
    → map (in_tree P) rest ≡ map goal_term (arithmetic_among (map (task_of P) kept))
    → map (in_tree P) (cond (not (is_call (task_in P f i))) (f ∷ rest) rest) ≡ map goal_term
    (arithmetic_among (task_in P f i ∷ map (task_of P) kept))
arithmetic_step P f (call g) kept rest is_item e = e
arithmetic_step P f (equal a b) kept rest is_item e = e
arithmetic_step P f (arithmetic a) kept rest is_item e =
    let same : in_tree P f ≡ goal_term (arithmetic_in f.frame a) = ap (λ (i : Item). framed f.frame (item_term i)) is_item
    ∙ goal_in_tree f.frame a in
    ap (λ (t : Term). t ∷ map (in_tree P) rest) same ∙ ap (λ (l : List Term). goal_term (arithmetic_in f.frame a) ∷ l) e
arithmetic_step P f fail kept rest is_item e = e

pub arithmetic_are : (P : Program) (kept : List Framed)
    → map (in_tree P) (arithmetic_kept P kept) ≡ map goal_term (arithmetic_among (map (task_of P) kept))
arithmetic_are P [] = refl
arithmetic_are P (f ∷ kept) = arithmetic_step P f (item_at P f.goal) kept (arithmetic_kept P kept) refl (arithmetic_are P kept)

-- the kept goals, calls before arithmetic
abbrev pub goals_first : Program → List Framed → List Framed
goals_first P kept = calls_kept P kept ++ arithmetic_kept P kept

pub first_contains : (P : Program) (kept : List Framed) (f : Framed) → Contains (goals_first P kept) f → Contains kept f
first_contains P kept f h = elim (Contains-append_cases (calls_kept P kept) (arithmetic_kept P kept) f h) [
  | inl i ↦ filter_contains (λ (g : Framed). is_call (task_of P g)) kept f i
  | inr i ↦ filter_contains (λ (g : Framed). not (is_call (task_of P g))) kept f i
]

module _ (P : NamedProgram) (own : OwnVariables P) (rs : List Reduction) (row : List Ref) (kept : List Framed)
    (tree : QueryTree P.program) (k : Kept P rs row kept tree) where
  -- The row is a most general solution of its own equations.
  pub row_general : IsMostGeneral P row (equations_of P row)
  row_general = rows_with_terms_are_solutions P row k.sound ((settled_rows_have_terms P row k.sound).0 k.settled)

  abbrev pub row_solution : Substitution
  row_solution = let g = row_general in g.solution

  abbrev pub row_reading : (base number : ℕ) → Term
  row_reading base n = row_solution [] (base + 1 + n)

  -- It gives each variable's cell the term that the cell stands for.
  pub cell_read : (v : Path × ℕ) (i : IsVariable P rs v) → StandsFor P row (Cell (i.node + 1 + v.1)) (row_reading i.node v.1)
  cell_read v i =
      let g = row_general in
      let below : i.node + 1 + v.1 < length row =
      let w = frame_within P.program rs tree k.made i.node i.clause i.clause_is in let f = variables_fit (clause_at P.program i.clause) in
      let o = i.own in let e = k.long in omega arith in
      g.of_cells (i.node + 1 + v.1) below (k.whole v i)

  -- A variable of a goal is one of the tree's.
  unfoldable pub goal_variable : (f : Framed) → Contains kept f → (v : Path × ℕ) → Contains (variables_of (term_of P.program f.goal)) v
      → IsVariable P rs (f.frame, v.1)
  goal_variable f h v c = record {
    node = f.goal.node;
    clause = f.goal.clause.0;
    place = Keeping.place_of P own rs row kept tree k f h;
    clause_is = Keeping.clause_of P own rs row kept tree k f h;
    own = (term_speaks P own f.goal v c).1;
  }

  pub goal_read : (f : Framed) → Contains kept f → (v : Path × ℕ) → Contains (variables_of (term_of P.program f.goal)) v
      → StandsFor P row (Cell (f.goal.base + 1 + v.1)) (row_reading f.goal.base v.1)
  unfolding goal_variable
  goal_read f h v c =
      subst (λ (n : ℕ). StandsFor P row (Cell (n + 1 + v.1)) (row_reading n v.1)) (sym (Keeping.base_of P own rs row kept tree k f h))
      (cell_read (f.frame, v.1) (goal_variable f h v c))

  pub query_read : (n : ℕ) → n < P.program.query.variables → StandsFor P row (Cell (0 + 1 + n)) (row_reading 0 n)
  unfolding query_variable
  query_read n low = cell_read ([], n) (query_variable P rs n low)

  -- ---- Variants

  abbrev back : Substitution
  back = Keeping.back_of P own rs row kept tree k

  -- The tree's equations have a solution,
  pub solved_general : (s : Substitution) × MostGeneral s k.solved
  solved_general = elim (unify k.solved) [
    | inl m ↦ m
    | inr none ↦ absurd (let g = row_general in
        none (then k.names row_solution, Keeping.to_solved P own rs row kept tree k row_solution g.most_general.0))
  ]

  abbrev pub tree_solution : Substitution
  tree_solution = let s = solved_general in s.0

  -- of which that of the row is one under the names, and the other way round.
  pub to_tree_term : (t : Term) → SpeaksOf (IsVariable P rs) t
      → apply (then back tree_solution) (apply row_solution (apply k.names t)) ≡ apply tree_solution t
  to_tree_term t speaks =
      let g = row_general in
      let m = solved_general in
      let solves : Solves (then back tree_solution) (equations_of P row) = Keeping.to_row P own rs row kept tree k tree_solution m.1.0 in
      let through : Through row_solution (then back tree_solution) = g.most_general.1 (then back tree_solution) solves in
      sym (apply_through row_solution (then back tree_solution) through (apply k.names t))
      ∙ sym (apply_then back tree_solution (apply k.names t))
      ∙ ap (apply tree_solution) (back_again (IsVariable P rs) k.names back t (Keeping.lead_back P own rs row kept tree k) speaks)

  pub to_row_term : (t : Term) → apply (then k.names row_solution) (apply tree_solution t) ≡ apply row_solution (apply k.names t)
  to_row_term t =
      let g = row_general in
      let m = solved_general in
      let solves : Solves (then k.names row_solution) k.solved = Keeping.to_solved P own rs row kept tree k row_solution g.most_general.0 in
      let through : Through tree_solution (then k.names row_solution) = m.1.1 (then k.names row_solution) solves in
      sym (apply_through tree_solution (then k.names row_solution) through t) ∙ sym (apply_then k.names row_solution t)

  -- What is read for a goal is what the row's solution makes of it, named.
  read_goal : (f : Framed) → Contains kept f → (t : Term)
      → apply (λ q n. row_reading f.goal.base n) t ≡ apply row_solution (apply k.names (framed f.frame t))
  read_goal f h t = sym (apply_then (cells_from f.goal.base) row_solution t)
      ∙ ap (apply row_solution) (sym (Keeping.named_in_cells P own rs row kept tree k f h t))

  read_query : (n : ℕ) → row_reading 0 n ≡ apply row_solution (apply k.names (variable [] n))
  read_query n = ap (apply row_solution) (sym (k.named 0 [] query n))

  goal_speaks : (f : Framed) → Contains kept f → SpeaksOf (IsVariable P rs) (in_tree P.program f)
  goal_speaks f h =
      let t : Term = term_of P.program f.goal in
      speaks_applied (λ (v : Path × ℕ). Contains (variables_of t) v) (IsVariable P rs) (λ r n. variable f.frame n) t
      (λ v c. speaks_variable (IsVariable P rs) f.frame v.1 (goal_variable f h v c)) (λ v c. c)

  pub query_speaks : (n : ℕ) → n < P.program.query.variables → SpeaksOf (IsVariable P rs) (variable [] n)
  query_speaks n low = speaks_variable (IsVariable P rs) [] n (query_variable P rs n low)

  -- So what is read and what the tree's solution makes are variants.
  pub read_variants : AreVariants
      (map (row_reading 0) (numbers_below P.program.query.variables) ++ map
      (λ (f : Framed). apply (λ q n. row_reading f.goal.base n) (term_of P.program f.goal)) (goals_first P.program kept))
      (map (tree_solution []) (numbers_below P.program.query.variables) ++ map (λ (f : Framed). apply tree_solution (in_tree P.program f))
      (goals_first P.program kept))
  read_variants =
      let ns : List ℕ = numbers_below P.program.query.variables in
      let fs : List Framed = goals_first P.program kept in
      let read : Framed → Term = λ f. apply (λ q n. row_reading f.goal.base n) (term_of P.program f.goal) in
      let solved : Framed → Term = λ f. apply tree_solution (in_tree P.program f) in
      let one : Substitution = then back tree_solution in
      let other : Substitution = then k.names row_solution in
      let first : map (apply one) (map (row_reading 0) ns) ≡ map (tree_solution []) ns =
      mapped one (row_reading 0) (tree_solution []) ns
      (λ n c. ap (apply one) (read_query n)
      ∙ to_tree_term (variable [] n) (query_speaks n (below_cases P.program.query.variables n c))) in
      let second : map (apply one) (map read fs) ≡ map solved fs =
      mapped one read solved fs
      (λ f c. let h = first_contains P.program kept f c in
      ap (apply one) (read_goal f h (term_of P.program f.goal)) ∙ to_tree_term (in_tree P.program f) (goal_speaks f h)) in
      let third : map (apply other) (map (tree_solution []) ns) ≡ map (row_reading 0) ns =
      mapped other (tree_solution []) (row_reading 0) ns (λ n c. to_row_term (variable [] n) ∙ sym (read_query n)) in
      let fourth : map (apply other) (map solved fs) ≡ map read fs =
      mapped other solved read fs
      (λ f c. to_row_term (in_tree P.program f) ∙ sym (read_goal f (first_contains P.program kept f c) (term_of P.program f.goal))) in (
        (
          one,
          map-append (apply one) (map (row_reading 0) ns) (map read fs)
              ∙ ap (λ (l : List Term). l ++ map (apply one) (map read fs)) first
              ∙ ap (λ (l : List Term). map (tree_solution []) ns ++ l) second,
        ),
        (
          other,
          map-append (apply other) (map (tree_solution []) ns) (map solved fs)
              ∙ ap (λ (l : List Term). l ++ map (apply other) (map solved fs)) third
              ∙ ap (λ (l : List Term). map (row_reading 0) ns ++ l) fourth,
        ),
      )

-- ---- What the branch stands for

module _ (P : NamedProgram) (own : OwnVariables P) (limit : ℕ) (key : List ℕ) (v : View) (tree : QueryTree P.program)
    (x : KeptIn P v tree) where
  kept_framed : All (IsFramed v.reductions) (goals_first P.program x.kept)
  kept_framed =
      let is_kept : All (IsFramed v.reductions) x.kept = x.keeps.framed in
      All-append (IsFramed v.reductions) (calls_kept P.program x.kept) (arithmetic_kept P.program x.kept)
      (All-filter (λ (g : Framed). is_call (task_of P.program g)) (IsFramed v.reductions) x.kept is_kept)
      (All-filter (λ (g : Framed). not (is_call (task_of P.program g))) (IsFramed v.reductions) x.kept is_kept)

  goals_read : IsReadIn P v.row (row_reading P own v.reductions v.row x.kept tree x.keeps) (v.goals ++ v.waiting)
  goals_read =
      let reading : (base number : ℕ) → Term = row_reading P own v.reductions v.row x.kept tree x.keeps in
      let Read : Goal → Type 0 = λ g. (w : Path × ℕ) → Contains (variables_of (term_of P.program g)) w
      → StandsFor P v.row (Cell (g.base + 1 + w.1)) (reading g.base w.1) in
      let fs : List Framed = goals_first P.program x.kept in
      let all : All Read (map goal_of fs) =
      All-map Read goal_of fs
      (all_of (λ (f : Framed). Read f.goal) fs
      (λ f c. goal_read P own v.reductions v.row x.kept tree x.keeps f (first_contains P.program x.kept f c))) in
      let same : map goal_of fs ≡ v.goals ++ v.waiting =
      map-append goal_of (calls_kept P.program x.kept) (arithmetic_kept P.program x.kept)
      ∙ ap (λ (l : List Goal). l ++ map goal_of (arithmetic_kept P.program x.kept)) x.goals
      ∙ ap (λ (l : List Goal). v.goals ++ l) x.waiting in
      record { query = query_read P own v.reductions v.row x.kept tree x.keeps; goals = subst (λ l. All Read l) same all }

  is_live : IsLive P.program (branch_of v (row_reading P own v.reductions v.row x.kept tree x.keeps)) tree
  is_live =
      let k : Kept P v.reductions v.row x.kept tree = x.keeps in
      let left : List Task = map (task_of P.program) x.kept in
      record {
        goals = calls_kept P.program x.kept;
        waiting = arithmetic_kept P.program x.kept;
        goals_are = x.goals;
        waiting_are = x.waiting;
        framed = kept_framed;
        calls = calls_are P.program x.kept ∙ ran_calls (equations tree) (tasks tree) k.solved left k.ran ∙ tasks_calls tree;
        solved = k.solved;
        waits = arithmetic_among left;
        ran = tree_ran tree k.solved left k.ran;
        not_run = arithmetic_are P.program x.kept;
        solution = tree_solution P own v.reductions v.row x.kept tree k;
        general = (solved_general P own v.reductions v.row x.kept tree k).1;
        read = read_variants P own v.reductions v.row x.kept tree k;
      }

  -- What a branch keeps makes it stand for its key.
  pub kept_stands : IsPrefix key (decided tree) → ReachedBy P.program limit key tree → Covers tree key → v.limit ≡ limit → v.key ≡ key
      → StandsIn v key P limit
  kept_stands begins reached covers of_limit of_key = record {
    reading = row_reading P own v.reductions v.row x.kept tree x.keeps;
    stands = record {
      tree = tree;
      made = x.keeps.made;
      decides = begins;
      reached = reached;
      used = sym x.keeps.long ∙ x.used;
      limit_kept = of_limit;
      key_kept = of_key;
      agrees = covers;
      state = inr (x.live, is_live);
    };
    read = λ live. goals_read;
  }
