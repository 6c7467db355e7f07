-- A branch whose call was reduced, and whose cells were settled with what that adds, keeps what a branch keeps.
use Rattle.std.proofs.Common.{ℕ, suc, ◌+◌, ◌^◌, ◌≡◌, ◌≢◌, ◌<◌, ◌≤◌, false, List, [], ◌∷◌, ◌++◌, length, map, get_or, replicate, refl, sym}
use Rattle.std.proofs.Common.{ap, ◌∙◌, subst, inl, inr, arith, Contains}
use Rattle.std.specs.Prelude.{All, AllPairs}
use Rattle.std.proofs.lemmas.List.{map-append, length-append, length-replicate, get_or_past}
use Rattle.std.proofs.lemmas.List.Elements.{All-contains, Contains-append_left, Contains-append_right}
use Rattle.and_model.specs.Terms.{Path, Term, Substitution, apply, framed}
use Rattle.and_model.specs.Solutions.{Equation, Solves, Solvable, Entails}
use Rattle.and_model.specs.Programs.{Item, call, equal, arithmetic, fail, clause_at, clause_weight, Of}
use Rattle.and_model.specs.Trees.{QueryTree, Open, path, call_of, reduce, equations, weight}
use Rattle.and_model.specs.Reached.{Dead}
use Rattle.and_model.specs.Reductions.{PlaceHas}
use Rattle.and_model.specs.Stands.{ClauseHas, Framed, IsFramed, in_tree, term_of}
use Rattle.and_model.specs.Store.{is_half}
use Rattle.and_model.specs.OwnVariables.{IsOwn, AreOwn}
use Rattle.and_model.specs.declared.goal.Goal.{Goal}
use Rattle.and_model.specs.declared.reference.Ref.{Ref}
use Rattle.and_model.specs.declared.reference.Ref.TheVariants.{Free}
use Rattle.and_laws.specs.Naming.{under}
use Rattle.and_laws.proofs.Order.{reduce_weight, clause_weighs}
use Rattle.and_laws.proofs.Placing.{place_more}
use Rattle.and_laws.proofs.Running.{reduce_entails}
use Rattle.and_laws.proofs.Solving.{solves_join, solves_front, solves_back}
use Rattle.and_laws.proofs.Substitutions.{then, apply_then}
use Rattle.and_laws.proofs.Ordered.{contains_first, contains_more, middle_has}
use Rattle.and_laws.proofs.Agreement.{query_apart}
use Rattle.and_laws.proofs.Deciding.{of_bounds}
use Rattle.and_laws.proofs.OpenPaths.{one_open}
use Rattle.and_laws.proofs.Reducing.{reduce_body, reduce_all}
use Rattle.and_cells.specs.Ranges.{NamedProgram, IsGoalInRange, pair_of}
use Rattle.and_cells.specs.Seen.{word_at}
use Rattle.and_cells.specs.Meaning.{equations_of}
use Rattle.and_cells.proofs.Keeping.{sound_extend}
use Rattle.and_branch_laws.specs.OwnVariables.{IsLoaded}
use Rattle.and_branch_laws.specs.Variables.{SpeaksOf, EquationsSpeakOf, IsVariable, placed, cells_from, IsWholeCell}
use Rattle.and_branch_laws.specs.Tasks.{Task, take, tasks, body_tasks, RanAmong}
use Rattle.and_branch_laws.specs.Reducing.{body_equations, reduction_equations, reduction_in_cells, goal_at, body_goals}
use Rattle.and_branch_laws.specs.Settling.{widened, Settled}
use Rattle.and_branch_laws.specs.Kept.{task_of, IsCall, node_item_at, HasFreePair, Kept, Unsettled}
use Rattle.and_branch_laws.proofs.Lists.{all_replaced, pairs_replaced}
use Rattle.and_branch_laws.proofs.Speaking.{speaks_agree, speaks_solves, under_then, then_under, speaks_applied, speaks_variable}
use Rattle.and_branch_laws.proofs.Places.{clause_more, frame_within, place_not_open}
use Rattle.and_branch_laws.proofs.Naming.{OneMore, before, after, more_made, still_contains, new_place, place_cases, extended}
use Rattle.and_branch_laws.proofs.Naming.{extended_other, names_more, variables_fit}
use Rattle.and_branch_laws.proofs.Growing.{body_is_own, head_is_own}
use Rattle.and_branch_laws.proofs.Owning.{own_speaks, term_speaks, body_equations_speak}
use Rattle.and_branch_laws.proofs.Tasks.{ran_replaced, Replaced, Again, open_at, OpenAt}
use Rattle.and_branch_laws.proofs.Keeping
use Rattle.and_branch_laws.proofs.Keeping.{names_place, task_is}
use Rattle.and_branch_laws.proofs.Rows.{widened_words, widened_states, widened_stated}
use Rattle.and_branch_laws.proofs.Settling
use Rattle.and_branch_laws.proofs.Clauses.{goal_in_range, goal_range_more}
use Rattle.and_branch_laws.proofs.BodyGoals.{body_goals_all, body_goals_once, body_goals_tasks}
use Rattle.and_branch_laws.proofs.Pairs

module _ (P : NamedProgram) (loaded : IsLoaded P) (s : OneMore P.program) (row : List Ref) (front : List Framed) (f : Framed)
    (back : List Framed)
    (k : Kept P (before s) row (front ++ f ∷ back) s.tree) (called : IsCall P.program f)
    (path_is : path s.tree s.goal ≡ f.frame ++ f.goal.item ∷ []) (call_is : call_of s.tree s.goal ≡ in_tree P.program f)
    (number : length row ≡ s.last.node) where
  abbrev pub c : ℕ
  c = s.last.clause

  abbrev pub p : Path
  p = path s.tree s.goal

  abbrev pub n : ℕ
  n = s.last.node

  abbrev pub kept : List Framed
  kept = front ++ f ∷ back

  abbrev pub next : QueryTree P.program
  next = reduce s.tree s.goal s.last.clause s.fits

  abbrev pub body : List Item
  body = (clause_at P.program s.last.clause).body

  -- the names, with those of the new frame
  abbrev pub names : Substitution
  names = extended k.names (path s.tree s.goal) s.last.node

  f_kept : Contains kept f
  f_kept = Contains-append_right front (f ∷ back) f (contains_first f back)

  -- ---- The names of what was there stay

  old_name : (v : Path × ℕ) → IsVariable P (before s) v → names v.0 v.1 ≡ k.names v.0 v.1
  old_name v i = extended_other k.names p n v.0 v.1 (λ e. place_not_open P.program (before s) s.tree s.made s.goal i.node v.0 i.place e)

  named_call : apply names (call_of s.tree s.goal) ≡ placed f.goal.base (term_of P.program f.goal)
  named_call =
      let speaks : SpeaksOf (IsVariable P (before s)) (in_tree P.program f) = Keeping.call_speaks_of P loaded.own
      (before s) row kept s.tree k f f_kept called in
      ap (apply names) call_is
      ∙ speaks_agree (IsVariable P (before s)) names k.names (in_tree P.program f) old_name speaks
      ∙ Keeping.named_in_cells P loaded.own (before s) row kept s.tree k f f_kept (term_of P.program f.goal)

  named_frame : (t : Term) → apply names (framed p t) ≡ placed n t
  named_frame t = names_place (after s) names (names_more P.program s k.names k.named) n p (new_place P.program s) t

  -- ---- What the reduction adds, in the tree and in the cells

  body_to_cells : (t : Substitution) (items : List Item) → Solves (then names t) (body_equations (framed p) items)
      → Solves t (body_equations (placed n) items)
  body_to_cells t [] h = tt
  body_to_cells t (call a ∷ items) h = body_to_cells t items h
  body_to_cells t (equal a b ∷ items) h = (
    ap (apply t) (sym (named_frame a)) ∙ apply_then names t (framed p a) ∙ h.0 ∙ sym (apply_then names t (framed p b))
        ∙ ap (apply t) (named_frame b),
    body_to_cells t items h.1,
  )
  body_to_cells t (arithmetic a ∷ items) h = body_to_cells t items h
  body_to_cells t (fail ∷ items) h = (h.0, body_to_cells t items h.1)

  body_to_tree : (t : Substitution) (items : List Item) → Solves t (body_equations (placed n) items)
      → Solves (then names t) (body_equations (framed p) items)
  body_to_tree t [] h = tt
  body_to_tree t (call a ∷ items) h = body_to_tree t items h
  body_to_tree t (equal a b ∷ items) h = (
    sym (apply_then names t (framed p a)) ∙ ap (apply t) (named_frame a) ∙ h.0 ∙ ap (apply t) (sym (named_frame b))
        ∙ apply_then names t (framed p b),
    body_to_tree t items h.1,
  )
  body_to_tree t (arithmetic a ∷ items) h = body_to_tree t items h
  body_to_tree t (fail ∷ items) h = (h.0, body_to_tree t items h.1)

  to_cells : (t : Substitution) → Solves (then names t) (reduction_equations P.program p (call_of s.tree s.goal) c)
      → Solves t (reduction_in_cells P.program f.goal c n)
  to_cells t h =
      let head : Term = (clause_at P.program c).head in (
        ap (apply t) (sym named_call) ∙ apply_then names t (call_of s.tree s.goal) ∙ h.0 ∙ sym (apply_then names t (framed p head))
            ∙ ap (apply t) (named_frame head),
        body_to_cells t body h.1,
      )

  to_tree : (t : Substitution) → Solves t (reduction_in_cells P.program f.goal c n)
      → Solves (then names t) (reduction_equations P.program p (call_of s.tree s.goal) c)
  to_tree t h =
      let head : Term = (clause_at P.program c).head in (
        sym (apply_then names t (call_of s.tree s.goal)) ∙ ap (apply t) named_call ∙ h.0 ∙ ap (apply t) (sym (named_frame head))
            ∙ apply_then names t (framed p head),
        body_to_tree t body h.1,
      )

  -- ---- The tasks

  pub replaced : Replaced (equations s.tree) (tasks s.tree) k.solved (map (task_of P.program) front) (task_of P.program f)
      (map (task_of P.program) back)
  replaced = ran_replaced (equations s.tree) (tasks s.tree) k.solved (map (task_of P.program) kept) k.ran (map (task_of P.program) front)
      (task_of P.program f) (map (task_of P.program) back) (map-append (task_of P.program) front (f ∷ back))

  pub again : Again (equations s.tree) (equations next) (tasks s.tree) (replaced.before ++ (body_tasks p 0 body ++ replaced.behind))
      (map (task_of P.program) front ++ (body_tasks p 0 body ++ map (task_of P.program) back)) k.solved
  again = replaced.replace (body_tasks p 0 body) (equations next) (reduce_entails s.tree s.goal s.last.clause s.fits)

  next_tasks : tasks next ≡ replaced.before ++ (body_tasks p 0 body ++ replaced.behind)
  next_tasks =
      let q : Path = f.frame ++ f.goal.item ∷ [] in
      let r : Replaced (equations s.tree) (tasks s.tree) k.solved (map (task_of P.program) front) (task_of P.program f)
      (map (task_of P.program) back) = replaced in
      let was : tasks s.tree ≡ r.before ++ take q (in_tree P.program f) ∷ r.behind = r.was
      ∙ ap (λ (x : Task). r.before ++ x ∷ r.behind) (task_is P.program f called) in
      let found : OpenAt s.tree q (in_tree P.program f) r.before r.behind = open_at s.tree q (in_tree P.program f) r.before r.behind was in
      let same : found.goal ≡ s.goal = one_open s.tree found.goal s.goal (query_apart P.program) (found.path_is ∙ sym path_is) in
      let all : (d : ℕ) (h : Of P.program (call_of s.tree s.goal) d)
      → tasks (reduce s.tree s.goal d h) ≡ r.before ++ (body_tasks q 0 (clause_at P.program d).body ++ r.behind) =
      subst (λ (o : Open s.tree). (d : ℕ) (h : Of P.program (call_of s.tree o) d)
      → tasks (reduce s.tree o d h) ≡ r.before ++ (body_tasks q 0 (clause_at P.program d).body ++ r.behind)) same found.reduced in
      all c s.fits ∙ ap (λ (z : Path). r.before ++ (body_tasks z 0 body ++ r.behind)) (sym path_is)

  abbrev pub solved : List Equation
  solved = let a = again in a.gained ++ equations next

  pub next_ran : RanAmong (equations next) (tasks next) solved (map (task_of P.program) (front ++ (body_goals c n p 0 body ++ back)))
  next_ran =
      let a = again in
      let goals : List Framed = body_goals c n p 0 body in
      let own : map (task_of P.program) goals ≡ body_tasks p 0 body = body_goals_tasks P.program c n p 0 body
      (λ j. let e : 0 + j ≡ j = omega arith in ap (λ (i : ℕ). get_or body i fail) e) in
      let all : map (task_of P.program) (front ++ (goals ++ back)) ≡ map
      (task_of P.program) front ++ (body_tasks p 0 body ++ map (task_of P.program) back) =
      map-append (task_of P.program) front (goals ++ back)
      ∙ ap (λ (l : List Task). map (task_of P.program) front ++ l) (map-append (task_of P.program) goals back)
      ∙ ap (λ (l : List Task). map (task_of P.program) front ++ (l ++ map (task_of P.program) back)) own in
      subst (λ (l : List Task). RanAmong (equations next) l solved (map (task_of P.program) (front ++ (goals ++ back)))) (sym next_tasks)
      (subst (λ (l : List Task). RanAmong (equations next) (replaced.before ++ (body_tasks p 0 body ++ replaced.behind)) solved l)
      (sym all) a.again)

  -- ---- The equations

  -- what solves the new equations, named, solves the old ones
  old_named : (t : Substitution) → Solves (then names t) k.solved → Solves t (under k.names k.solved)
  old_named t h =
      then_under k.names t k.solved
      (speaks_solves (IsVariable P (before s)) (then names t) (then k.names t) k.solved (λ v i. ap (apply t) (old_name v i))
      (Keeping.solved_speaks P loaded.own (before s) row kept s.tree k) h)

  named_old : (t : Substitution) → Solves t (under k.names k.solved) → Solves (then names t) k.solved
  named_old t h =
      speaks_solves (IsVariable P (before s)) (then k.names t) (then names t) k.solved (λ v i. sym (ap (apply t) (old_name v i)))
      (Keeping.solved_speaks P loaded.own (before s) row kept s.tree k)
      (under_then k.names t k.solved h)

  -- What solves the new tree's equations, named, solves the row's and those of the reduction in the cells,
  pub new_to_old : (t : Substitution) → Solves t (under names solved) → Solves t (equations_of P row)
      × Solves t (reduction_in_cells P.program f.goal c n)
  new_to_old t h =
      let a = again in
      let u : Substitution = then names t in
      let all : Solves u solved = under_then names t solved h in
      let grown : Solves u (equations next) = solves_back u a.gained (equations next) all in
      let was : Solves u k.solved =
      subst (λ (l : List Equation). Solves u l) (sym a.was)
      (solves_join u a.gained (equations s.tree) (solves_front u a.gained (equations next) all)
      (reduce_entails s.tree s.goal s.last.clause s.fits u grown)) in
      (k.stated t (old_named t was), to_cells t (reduce_body s.tree s.goal s.last.clause s.fits u grown))

  -- and the other way round.
  old_to_new : (t : Substitution) → Solves t (equations_of P row) → Solves t (reduction_in_cells P.program f.goal c n)
      → Solves t (under names solved)
  old_to_new t h r =
      let a = again in
      let u : Substitution = then names t in
      let was : Solves u (a.gained ++ equations s.tree) = subst (λ (l : List Equation). Solves u l) a.was (named_old t (k.states t h)) in
      let grown : Solves u (equations next) = reduce_all s.tree s.goal s.last.clause s.fits u (to_tree t r)
      (solves_back u a.gained (equations s.tree) was) in
      then_under names t solved (solves_join u a.gained (equations next) (solves_front u a.gained (equations s.tree) was) grown)

  abbrev pub wide : List Ref
  wide = widened row (clause_weight (clause_at P.program s.last.clause))

  abbrev pub asked : List Equation
  asked = reduction_in_cells P.program f.goal s.last.clause s.last.node

  -- So the widened row states the new tree's equations, named, with those of the reduction, and nothing else.
  next_states : Entails (equations_of P wide ++ asked) (under names solved)
  next_states t h =
      old_to_new t (widened_states P row (clause_weight (clause_at P.program c)) t (solves_front t (equations_of P wide) asked h))
      (solves_back t (equations_of P wide) asked h)

  next_stated : Entails (under names solved) (equations_of P wide ++ asked)
  next_stated t h =
      let parts = new_to_old t h in
      solves_join t (equations_of P wide) asked (widened_stated P row (clause_weight (clause_at P.program c)) t parts.0) parts.1

  -- Where the cells have no solution with what the reduction adds, the new tree is dead.
  pub unsolved_is_dead :
      (Solvable (equations_of P (widened row (clause_weight (clause_at P.program s.last.clause))) ++ reduction_in_cells P.program f.goal
      s.last.clause s.last.node) → ⊥) → Dead next
  unsolved_is_dead none_is =
      Settling.unsolved_is_dead P loaded.own (after s) next (more_made P.program s) names (names_more P.program s k.names k.named) solved
      (map (task_of P.program) (front ++ (body_goals c n p 0 body ++ back))) next_ran (equations_of P wide ++ asked) next_stated none_is

  -- ---- The row

  wide_long : length wide ≡ length row + clause_weight (clause_at P.program c)
  wide_long = let w = clause_weight (clause_at P.program c) in
      length-append row (replicate w Free) ∙ ap (λ (m : ℕ). length row + m) (length-replicate w Free)

  next_long : length wide ≡ weight next
  next_long = let w = reduce_weight s.tree s.goal s.last.clause s.fits in let l = wide_long in let j = k.long in omega arith

  wide_word : (m : ℕ) → word_at wide m ≡ word_at row m
  wide_word m = widened_words row (clause_weight (clause_at P.program c)) m

  -- behind the row all is free
  behind_free : (m : ℕ) → length row ≤ m → word_at wide m ≡ Free
  behind_free m past = wide_word m ∙ get_or_past row m Free past

  next_whole : (v : Path × ℕ) (i : IsVariable P (after s) v) → is_half (word_at wide (i.node + 1 + v.1)) ≡ false
  next_whole v i = elim (place_cases P.program s i.node v.0 i.clause i.place i.clause_is) [
    | inl e ↦ ap is_half (behind_free (i.node + 1 + v.1) (let a = e.0 in omega arith))
    | inr old ↦ ap is_half (wide_word (i.node + 1 + v.1))
        ∙ k.whole v (record { node = i.node; clause = i.clause; place = old.0; clause_is = old.1; own = i.own })
  ]

  -- ---- The equations of the reduction speak of its cells

  whole_cell : (v : Path × ℕ) (i : IsVariable P (after s) v) → IsWholeCell wide ([], i.node + 1 + v.1)
  whole_cell v i =
      let within = frame_within P.program (after s) next (more_made P.program s) i.node i.clause i.clause_is in
      let fits = variables_fit (clause_at P.program i.clause) in
      let own = i.own in
      let long = next_long in
      (refl, omega arith, next_whole v i)

  cells_speak : (q : Path) (m d : ℕ) → PlaceHas (after s) m q → ClauseHas (after s) m d → (t : Term)
      → SpeaksOf (IsOwn (clause_at P.program d).variables) t → SpeaksOf (IsWholeCell wide) (placed m t)
  cells_speak q m d place has t speaks =
      speaks_applied (IsOwn (clause_at P.program d).variables) (IsWholeCell wide) (cells_from m) t
      (λ v o. speaks_variable (IsWholeCell wide) [] (m + 1 + v.1)
      (whole_cell (q, v.1) (record { node = m; clause = d; place = place; clause_is = has; own = o.1 }))) speaks

  new_clause : ClauseHas (after s) s.last.node s.last.clause
  new_clause = inr (s.last, middle_has s.front s.back s.last, refl, refl)

  new_speaks : (t : Term) → AreOwn (clause_at P.program c).variables t → SpeaksOf (IsWholeCell wide) (placed n t)
  new_speaks t own = cells_speak p n c (new_place P.program s) new_clause t (own_speaks (clause_at P.program c).variables t own)

  old_place : (m : ℕ) (q : Path) → PlaceHas (before s) m q → PlaceHas (after s) m q
  old_place m q place = place_more (before s) (after s) (still_contains P.program s) m q place

  old_clause : (m d : ℕ) → ClauseHas (before s) m d → ClauseHas (after s) m d
  old_clause m d has = clause_more (before s) (after s) (still_contains P.program s) m d has

  place_kept : (h : Framed) → Contains kept h → PlaceHas (before s) h.goal.node h.frame
  place_kept h i = Keeping.place_of P loaded.own (before s) row kept s.tree k h i

  clause_kept : (h : Framed) → Contains kept h → ClauseHas (before s) h.goal.node h.goal.clause.0
  clause_kept h i = Keeping.clause_of P loaded.own (before s) row kept s.tree k h i

  asked_speaks : EquationsSpeakOf (IsWholeCell wide) asked
  asked_speaks =
      let t : Term = term_of P.program f.goal in
      let node : SpeaksOf (IsWholeCell wide) (placed f.goal.node t) =
      cells_speak f.frame f.goal.node f.goal.clause.0 (old_place f.goal.node f.frame (place_kept f f_kept))
      (old_clause f.goal.node f.goal.clause.0 (clause_kept f f_kept)) t (term_speaks P loaded.own f.goal) in
      let based : SpeaksOf (IsWholeCell wide) (placed f.goal.base t) = subst (λ (m : ℕ). SpeaksOf (IsWholeCell wide) (placed m t))
      (sym (Keeping.base_of P loaded.own (before s) row kept s.tree k f f_kept)) node in (
        based,
        new_speaks (clause_at P.program c).head (head_is_own P loaded.own c),
        body_equations_speak (IsWholeCell wide) (placed n) (clause_at P.program c).variables body new_speaks (body_is_own P loaded.own c),
      )

  -- ---- The goals

  abbrev pub goals : List Framed
  goals = body_goals s.last.clause s.last.node (path s.tree s.goal) 0 (clause_at P.program s.last.clause).body

  abbrev pub all_goals : List Framed
  all_goals = front ++ (body_goals s.last.clause s.last.node (path s.tree s.goal) 0 (clause_at P.program s.last.clause).body ++ back)

  next_framed : All (IsFramed (after s)) all_goals
  next_framed =
      all_replaced (IsFramed (before s)) (IsFramed (after s)) front f back goals
      (λ h i. (old_place h.goal.node h.frame i.0, old_clause h.goal.node h.goal.clause.0 i.1)) k.framed
      (body_goals_all (IsFramed (after s)) c n p 0 body (λ j l m. (new_place P.program s, new_clause)))

  next_based : All (λ (h : Framed). h.goal.base ≡ h.goal.node) all_goals
  next_based =
      let Q : Framed → Type 0 = λ h. h.goal.base ≡ h.goal.node in
      all_replaced Q Q front f back goals (λ h i. i) k.based (body_goals_all Q c n p 0 body (λ j l m. refl))

  clause_there : s.last.clause ≤ length P.program.clauses
  clause_there = (of_bounds P.program (call_of s.tree s.goal) s.last.clause s.fits).1

  -- no kept goal stands at the new place
  kept_below : (h : Framed) → Contains kept h → h.goal.node < s.last.node
  kept_below h i =
      let within = frame_within P.program (before s) s.tree s.made h.goal.node h.goal.clause.0 (clause_kept h i) in
      let weighs = clause_weighs (clause_at P.program h.goal.clause.0) in
      let e = s.number in
      omega arith

  goal_new : (h : Framed) → Contains goals h → h.goal.node ≡ s.last.node
  goal_new h i = All-contains (λ (y : Framed). y.goal.node ≡ s.last.node) goals h
      (body_goals_all (λ (y : Framed). y.goal.node ≡ s.last.node) c n p 0 body (λ j l m. refl)) i

  next_once : AllPairs (λ (y z : Framed). y.goal ≢ z.goal) all_goals
  next_once =
      let R : Framed → Framed → Type 0 = λ y z. y.goal ≢ z.goal in
      pairs_replaced R front f back goals k.once (body_goals_once c n p 0 body)
      (λ y z i j e. let low = kept_below y (Contains-append_left front (f ∷ back) y i) in let at = goal_new z j in
      let same = ap (λ (o : Goal). o.node) e in omega arith)
      (λ y z i j e. let low = kept_below z (Contains-append_right front (f ∷ back) z (contains_more f z back j)) in
      let at = goal_new y i in let same = ap (λ (o : Goal). o.node) e in omega arith)

  old_free : (h : Framed) → HasFreePair P row h.goal (node_item_at P h.goal) → HasFreePair P wide h.goal (node_item_at P h.goal)
  old_free h i =
      Pairs.has_free_pair P wide h.goal (node_item_at P h.goal) (λ l r number e.
      let was = Pairs.free_pair P row h.goal (node_item_at P h.goal) l r number e i in
      let pair : ℕ = pair_of P h.goal.clause.0 h.goal.base number in
      (wide_word pair ∙ was.0, wide_word (suc pair) ∙ was.1))

  new_free : (j : ℕ) → HasFreePair P wide (goal_at c n p j).goal (node_item_at P (goal_at c n p j).goal)
  new_free j =
      let h : Goal = (goal_at c n p j).goal in
      Pairs.has_free_pair P wide h (node_item_at P h) (λ l r number e.
      let low = (Pairs.pair_within P loaded (after s) next (more_made P.program s) n c j l r number new_clause e).0 in
      (behind_free (pair_of P c n number) (omega arith), behind_free (suc (pair_of P c n number)) (omega arith)))

  next_free : All (λ (h : Framed). HasFreePair P wide h.goal (node_item_at P h.goal)) all_goals
  next_free =
      all_replaced (λ (h : Framed). HasFreePair P row h.goal (node_item_at P h.goal))
      (λ (h : Framed). HasFreePair P wide h.goal (node_item_at P h.goal)) front f back goals old_free k.free
      (body_goals_all (λ (h : Framed). HasFreePair P wide h.goal (node_item_at P h.goal)) c n p 0 body (λ j l m. new_free j))

  module _ (short : length row + clause_weight (clause_at P.program s.last.clause) ≤ 2 ^ 22 + 256) where
    next_in_range : All (λ (h : Framed). IsGoalInRange P (length wide) h.goal) all_goals
    next_in_range =
        let long = wide_long in
        let longer : length row ≤ length wide = omega arith in
        let room : s.last.node + clause_weight (clause_at P.program s.last.clause) ≤ length wide = omega arith in
        all_replaced (λ (h : Framed). IsGoalInRange P (length row) h.goal)
        (λ (h : Framed). IsGoalInRange P (length wide) h.goal) front f back goals
        (λ h i. goal_range_more P (length row) (length wide) h.goal longer i) k.in_range
        (body_goals_all (λ (h : Framed). IsGoalInRange P (length wide) h.goal) c n p 0 body
        (λ j l m. goal_in_range P loaded s.last.clause clause_there (length wide) s.last.node room (omega arith)
        (goal_at c n p j).goal refl refl (omega arith)))

    -- What holds of the branch before its cells are settled.
    pub reduced : Unsettled P (after s) wide asked all_goals next
    reduced = record {
      has = record {
        made = more_made P.program s;
        long = next_long;
        sound = sound_extend P row (clause_weight (clause_at P.program c)) k.sound short;
        framed = next_framed;
        based = next_based;
        in_range = next_in_range;
        once = next_once;
        solved = solved;
        ran = next_ran;
        names = names;
        named = names_more P.program s k.names k.named;
        whole = next_whole;
        free = next_free;
      };
      speaks = asked_speaks;
      states = next_states;
      stated = next_stated;
    }

  -- What a branch keeps after the reduction, where they were settled.
  pub reduced_kept : (new : List Ref)
      → Settled P (widened row (clause_weight (clause_at P.program s.last.clause))) new
      (reduction_in_cells P.program f.goal s.last.clause s.last.node) → Kept P (after s) new all_goals next
  reduced_kept new x =
      let y = x.keeps in
      let long = wide_long in
      let same = y.words in
      let fits = x.sound.short in
      let short : length row + clause_weight (clause_at P.program s.last.clause) ≤ 2 ^ 22 + 256 = omega arith in
      Settling.settled_kept P loaded (after s) wide asked all_goals next (reduced short) new x
