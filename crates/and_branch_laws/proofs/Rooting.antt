-- A branch at the root: all calls of the query are open, and its `=` items are settled in the query's frame.
use Rattle.std.proofs.Common.{ℕ, suc, ◌+◌, ◌^◌, ◌≡◌, ◌≤◌, false, List, [], ◌∷◌, ◌++◌, length, map, get_or, replicate, append-nil, refl, sym}
use Rattle.std.proofs.Common.{ap, ◌∙◌, subst, inl, arith, Contains}
use Rattle.std.proofs.lemmas.List.{length-replicate}
use Rattle.and_model.specs.Terms.{Path, Term, Substitution, apply, framed}
use Rattle.and_model.specs.Solutions.{Equation, Solves, Solvable, Entails}
use Rattle.and_model.specs.Programs.{Item, call, equal, arithmetic, fail, clause_weight}
use Rattle.and_model.specs.Trees.{QueryTree, query_agenda, end, done, blank, fresh, equations}
use Rattle.and_model.specs.Reached.{Dead}
use Rattle.and_model.specs.Reductions.{query, none}
use Rattle.and_model.specs.Stands.{Framed, IsFramed}
use Rattle.and_model.specs.Store.{is_half}
use Rattle.and_model.specs.OwnVariables.{IsOwn, AreOwn}
use Rattle.and_model.specs.declared.reference.Ref.{Ref}
use Rattle.and_model.specs.declared.reference.Ref.TheVariants.{Free}
use Rattle.and_laws.specs.Naming.{under}
use Rattle.and_laws.proofs.Bodies.{fresh_blank}
use Rattle.and_laws.proofs.Order.{blank_weighs}
use Rattle.and_laws.proofs.Solving.{solves_join, solves_back}
use Rattle.and_laws.proofs.Substitutions.{then, apply_then}
use Rattle.and_laws.proofs.Reducing.{fresh_body, fresh_all}
use Rattle.and_cells.specs.Ranges.{NamedProgram, IsGoalInRange, pair_of}
use Rattle.and_cells.specs.Seen.{word_at}
use Rattle.and_cells.specs.Meaning.{equations_of}
use Rattle.and_cells.proofs.Keeping.{sound_free}
use Rattle.and_branch_laws.specs.OwnVariables.{IsLoaded}
use Rattle.and_branch_laws.specs.Variables.{SpeaksOf, AreNames, placed, cells_from, IsWholeCell}
use Rattle.and_branch_laws.specs.Tasks.{Task, tasks, body_tasks, RanAmong, none_yet}
use Rattle.and_branch_laws.specs.Reducing.{body_equations, goal_at, body_goals}
use Rattle.and_branch_laws.specs.Settling.{Settled}
use Rattle.and_branch_laws.specs.Kept.{task_of, node_item_at, HasFreePair, Kept, Unsettled}
use Rattle.and_branch_laws.proofs.Speaking.{speaks_applied, speaks_variable, under_then, then_under}
use Rattle.and_branch_laws.proofs.Naming.{some_names, variables_fit}
use Rattle.and_branch_laws.proofs.Growing.{body_is_own}
use Rattle.and_branch_laws.proofs.Tasks.{fresh_tasks}
use Rattle.and_branch_laws.proofs.Owning.{own_speaks, body_equations_speak}
use Rattle.and_branch_laws.proofs.Keeping.{names_place}
use Rattle.and_branch_laws.proofs.Rows.{free_words, row_solved}
use Rattle.and_branch_laws.proofs.Settling.{unsolved_is_dead, settled_kept}
use Rattle.and_branch_laws.proofs.Clauses.{goal_in_range}
use Rattle.and_branch_laws.proofs.BodyGoals.{body_goals_all, body_goals_once, body_goals_tasks}
use Rattle.and_branch_laws.proofs.Pairs.{has_free_pair}
use Rattle.and_branch_laws.proofs.Stepping.{body_fails}

module _ (P : NamedProgram) (loaded : IsLoaded P) where
  abbrev root : QueryTree P.program
  root = blank (query_agenda P.program)

  abbrev body : List Item
  body = P.program.query.body

  abbrev w : ℕ
  w = clause_weight P.program.query

  root_is : fresh {P = P.program} [] 0 P.program.query.body done ≡ blank (query_agenda P.program)
  root_is = fresh_blank {P = P.program} [] 0 P.program.query.body end

  names : Substitution
  names = (some_names P.program [] root none).0

  named : AreNames [] names
  unfolding names
  named = (some_names P.program [] root none).1

  named_body : (t : Term) → apply names (framed [] t) ≡ placed 0 t
  named_body t = names_place [] names named 0 [] query t

  body_to_cells : (t : Substitution) (items : List Item) → Solves (then names t) (body_equations (framed []) items)
      → Solves t (body_equations (placed 0) items)
  body_to_cells t [] h = tt
  body_to_cells t (call a ∷ items) h = body_to_cells t items h
  body_to_cells t (equal a b ∷ items) h = (
    ap (apply t) (sym (named_body a)) ∙ apply_then names t (framed [] a) ∙ h.0 ∙ sym (apply_then names t (framed [] b))
        ∙ ap (apply t) (named_body b),
    body_to_cells t items h.1,
  )
  body_to_cells t (arithmetic a ∷ items) h = body_to_cells t items h
  body_to_cells t (fail ∷ items) h = (h.0, body_to_cells t items h.1)

  body_to_tree : (t : Substitution) (items : List Item) → Solves t (body_equations (placed 0) items)
      → Solves (then names t) (body_equations (framed []) items)
  body_to_tree t [] h = tt
  body_to_tree t (call a ∷ items) h = body_to_tree t items h
  body_to_tree t (equal a b ∷ items) h = (
    sym (apply_then names t (framed [] a)) ∙ ap (apply t) (named_body a) ∙ h.0 ∙ ap (apply t) (sym (named_body b))
        ∙ apply_then names t (framed [] b),
    body_to_tree t items h.1,
  )
  body_to_tree t (arithmetic a ∷ items) h = body_to_tree t items h
  body_to_tree t (fail ∷ items) h = (h.0, body_to_tree t items h.1)

  root_to_cells : (t : Substitution) → Solves t (under names (equations root)) → Solves t (body_equations (placed 0) body)
  root_to_cells t h =
      let u : Solves (then names t) (equations root) = under_then names t (equations root) h in
      let v : Solves (then names t) (equations (fresh {P = P.program} [] 0 body done)) =
      subst (λ (x : QueryTree P.program). Solves (then names t) (equations x)) (sym root_is) u in
      body_to_cells t body (fresh_body [] 0 body done (then names t) v)

  root_to_tree : (t : Substitution) → Solves t (body_equations (placed 0) body) → Solves t (under names (equations root))
  root_to_tree t h =
      let v : Solves (then names t) (equations (fresh {P = P.program} [] 0 body done)) = fresh_all [] 0 body done (then names t)
      (body_to_tree t body h) tt in
      then_under names t (equations root) (subst (λ (x : QueryTree P.program). Solves (then names t) (equations x)) root_is v)

  abbrev free : List Ref
  free = replicate (clause_weight P.program.query) Free

  abbrev asked : List Equation
  asked = body_equations (placed 0) P.program.query.body

  free_row : (t : Substitution) → Solves t (equations_of P free)
  free_row t = row_solved P free t (λ place r set whole. absurd (set.1 (sym set.0 ∙ free_words w place)))

  -- With the query's variables named, its `=` items are the tree's equations.
  root_states : Entails (equations_of P free ++ asked) (under names (equations root))
  root_states t h = root_to_tree t (solves_back t (equations_of P free) asked h)

  root_stated : Entails (under names (equations root)) (equations_of P free ++ asked)
  root_stated t h = solves_join t (equations_of P free) asked (free_row t) (root_to_cells t h)

  -- ---- The goals

  abbrev goals : List Framed
  goals = body_goals 0 0 [] 0 P.program.query.body

  root_tasks : tasks root ≡ map (task_of P.program) goals
  root_tasks =
      ap (λ (t : QueryTree P.program). tasks t) (sym root_is) ∙ fresh_tasks {P = P.program} [] 0 body done
      ∙ append-nil (body_tasks [] 0 body)
      ∙ sym (body_goals_tasks P.program 0 0 [] 0 body (λ j. let e : 0 + j ≡ j = omega arith in ap (λ (i : ℕ). get_or body i fail) e))

  root_ran : RanAmong (equations root) (tasks root) (equations root) (map (task_of P.program) goals)
  root_ran = subst (λ (l : List Task). RanAmong (equations root) (tasks root) (equations root) l) root_tasks
      (none_yet (equations root) (tasks root))

  -- Where the query's `=` items have no solution, the tree is dead,
  pub unsolved_root_is_dead :
      (Solvable (equations_of P (replicate (clause_weight P.program.query) Free) ++ body_equations (placed 0) P.program.query.body) → ⊥)
      → Dead root
  unsolved_root_is_dead none_is = unsolved_is_dead P loaded.own [] root none names named (equations root)
      (map (task_of P.program) goals) root_ran (equations_of P free ++ asked) root_stated none_is

  -- as it is where the query has `fail`.
  pub failing_root_is_dead : Contains P.program.query.body fail → Dead root
  failing_root_is_dead has =
      unsolved_root_is_dead (λ so. body_fails (placed 0) so.0 body has (solves_back so.0 (equations_of P free) asked so.1))

  -- ---- The row

  free_whole : (m : ℕ) → is_half (word_at free m) ≡ false
  free_whole m = ap is_half (free_words w m)

  free_long : length free ≡ w
  free_long = length-replicate w Free

  placed_speaks : (t : Term) → AreOwn P.program.query.variables t → SpeaksOf (IsWholeCell free) (placed 0 t)
  placed_speaks t own =
      let cell : (v : Path × ℕ) → IsOwn P.program.query.variables v → SpeaksOf (IsWholeCell free) (cells_from 0 v.0 v.1) =
      λ v o.
      (
      let fits = variables_fit P.program.query in
      let low = o.1 in
      let long = free_long in
      speaks_variable (IsWholeCell free) [] (0 + 1 + v.1) (refl, omega arith, free_whole (0 + 1 + v.1))) in
      speaks_applied (IsOwn P.program.query.variables) (IsWholeCell free) (cells_from 0) t cell (own_speaks P.program.query.variables t own)

  goal_free : (j : ℕ) → HasFreePair P free (goal_at 0 0 [] j).goal (node_item_at P (goal_at 0 0 [] j).goal)
  goal_free j =
      let h = (goal_at 0 0 [] j).goal in
      has_free_pair P free h (node_item_at P h)
      (λ l r number e. (free_words w (pair_of P 0 0 number), free_words w (suc (pair_of P 0 0 number))))

  -- What holds at the root before the cells are settled,
  root_unsettled : clause_weight P.program.query ≤ 2 ^ 22 + 256 → Unsettled P [] free asked goals root
  root_unsettled short = record {
    has = record {
      made = none;
      long = let l = free_long in let b = blank_weighs P.program (query_agenda P.program) in omega arith;
      sound = sound_free P w short;
      framed = body_goals_all (IsFramed []) 0 0 [] 0 body (λ j l m. (query, inl (refl, refl)));
      based = body_goals_all (λ (h : Framed). h.goal.base ≡ h.goal.node) 0 0 [] 0 body (λ j l m. refl);
      in_range = body_goals_all (λ (h : Framed). IsGoalInRange P (length free) h.goal) 0 0 [] 0 body
          (λ j l m.
          let e = free_long in
          goal_in_range P loaded 0 (omega arith) (length free) 0 (omega arith) (omega arith) (goal_at 0 0 [] j).goal refl refl
          (omega arith));
      once = body_goals_once 0 0 [] 0 body;
      solved = equations root;
      ran = root_ran;
      names = names;
      named = named;
      whole = λ v i. free_whole (i.node + 1 + v.1);
      free = body_goals_all (λ (h : Framed). HasFreePair P free h.goal (node_item_at P h.goal)) 0 0 [] 0 body (λ j l m. goal_free j);
    };
    speaks = body_equations_speak (IsWholeCell free) (placed 0) P.program.query.variables body placed_speaks (body_is_own P loaded.own 0);
    states = root_states;
    stated = root_stated;
  }

  -- and what a branch keeps there.
  pub root_kept : (new : List Ref)
      → Settled P (replicate (clause_weight P.program.query) Free) new (body_equations (placed 0) P.program.query.body)
      → Kept P [] new (body_goals 0 0 [] 0 P.program.query.body) root
  root_kept new x =
      let y = x.keeps in
      let long = free_long in
      let same = y.words in
      let fits = x.sound.short in
      let short : clause_weight P.program.query ≤ 2 ^ 22 + 256 = omega arith in
      settled_kept P loaded [] free asked goals root (root_unsettled short) new x
