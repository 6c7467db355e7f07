-- What a substitution that solves what is told in a phase's tree solves in the cells.
use Rattle.std.proofs.Common.{ℕ, ◌≡◌, ◌≤◌, arith, List, [], ◌∷◌, ◌++◌, map, refl, sym, subst, ◌∙◌, inl, inr, length, Contains}
use Rattle.std.proofs.lemmas.List.Elements.{All-contains, Contains-append_right}
use Rattle.and_model.specs.Terms.{Path, Substitution, framed}
use Rattle.and_model.specs.Solutions.{Solves}
use Rattle.and_model.specs.Programs.{arithmetic, clause_at}
use Rattle.and_model.specs.Closure.{added}
use Rattle.and_model.specs.Trees.{query_agenda}
use Rattle.and_model.specs.Reductions.{Reduction, PlaceHas, reduced}
use Rattle.and_model.specs.Stands.{term_of}
use Rattle.and_model.specs.OwnVariables.{IsOwn}
use Rattle.and_model.specs.declared.goal.Goal.{Goal}
use Rattle.and_laws.specs.Naming.{under}
use Rattle.and_laws.proofs.Substitutions.{then}
use Rattle.and_laws.proofs.Solving.{solves_join, solves_front, solves_back}
use Rattle.and_cells.specs.Ranges.{NamedProgram}
use Rattle.and_cells.specs.Meaning.{equations_of}
use Rattle.and_phase_laws.specs.Journals.{Entry, Journal, reduction_equations, settings, made, made_by, Opening, known}
use Rattle.and_phase_laws.specs.Weaving.{Run, entry_of, woven}
use Rattle.and_phase_laws.proofs.Weaving.{woven_settings}
use Rattle.and_branch_laws.specs.Variables.{ArithmeticSpeaksOf}
use Rattle.and_branch_laws.specs.Reducing.{reduction_in_cells}
use Rattle.and_branch_laws.specs.Kept.{goal_of, item_at}
use Rattle.and_branch_laws.proofs.Speaking.{under_then}
use Rattle.and_branch_laws.proofs.Growing.{body_is_own}
use Rattle.and_branch_laws.proofs.Owning.{ItemSpeaksOf, item_speaks}
use Rattle.and_worker_laws.specs.PhaseCells.{put_apart, cell_equations}
use Rattle.and_worker_laws.specs.Acts.{Act, takes, sets, fails, RunInCells, reductions, stated, asked, asked_by, arithmetic_at, added_by_run}
use Rattle.and_worker_laws.specs.Acts.{all_added, added_by, IsThere}
use Rattle.and_worker_laws.specs.Facts.{known_by, told_by}
use Rattle.and_worker_laws.specs.Reading.{IsReadAs, AreReadAs, IsRunReadAs}
use Rattle.and_worker_laws.specs.Standing.{Stands}
use Rattle.and_worker_laws.proofs.Taking.{taken_reduction}
use Rattle.and_worker_laws.proofs.Solving.{AreSame, same_there, same_back, added_same, reduction_same}
use Rattle.and_worker_laws.proofs.Asking.{asked_of, asked_all, asked_by_all, added_of, added_all, added_by_all}
use Rattle.and_worker_laws.proofs.Making.{MadeBy, Made, made_of, made_all, made_by_of}
use Rattle.and_worker_laws.proofs.Weaving.{entry_woven, run_woven, woven_cases}
use Rattle.and_worker_laws.proofs.Matching.{length_read, act_read, entry_read, settings_read, run_in_tree, run_in_cells}
use Rattle.and_worker_laws.proofs.Reading.{WasTaken, was_taken, stands_of, run_was, ReadPhase}

module _ {P : NamedProgram} {op : Opening P.program (query_agenda P.program)} {acts : List Act} {runs : List RunInCells} {j : Journal} {read : List Run}
    (h : ReadPhase P op acts runs j read) where
  abbrev pub all : List Reduction
  all = h.rs ++ reductions acts

  -- what is read of the cells by a substitution of the tree's variables and the frame apart
  abbrev pub of_cells : Substitution → Substitution
  of_cells s = then (put_apart h.apart) s

  pub stands : (g : Goal) → IsThere P.program (map goal_of h.kept) acts g → Stands op all j g
  stands g there = stands_of P h.own h.rs h.first h.kept op h.keeps h.apart acts runs j h.done h.acts_read g there

  -- Each variable is given what its cell is given, where the opening's cells are solved,
  pub cells_given : (s : Substitution) (before : Journal) → Solves s (known op before) → Solves s (cell_equations h.apart h.cells)
  cells_given s before p =
      solves_back s (under (put_apart h.apart) (equations_of P h.first)) (cell_equations h.apart h.cells)
      (subst (λ es. Solves s es) h.cells_are (solves_back s (settings before) op.cells p))

  -- and what is known of the tree is known of the cells.
  pub known_in_cells : (s : Substitution) (earlier : List Act) (before : Journal) → AreReadAs P.program all h.apart earlier before
      → Solves s (known op before) → Solves (of_cells s) (known_by (equations_of P h.first) earlier)
  known_in_cells s earlier before r p =
      let cells : Solves s (under (put_apart h.apart) (equations_of P h.first)) =
      solves_front s (under (put_apart h.apart) (equations_of P h.first)) (cell_equations h.apart h.cells)
      (subst (λ es. Solves s es) h.cells_are (solves_back s (settings before) op.cells p)) in
      let set : Solves s (under (put_apart h.apart) (stated earlier)) =
      subst (λ es. Solves s es) (settings_read P.program all h.apart earlier before r) (solves_front s (settings before) op.cells p) in
      solves_join (of_cells s) (stated earlier) (equations_of P h.first) (under_then (put_apart h.apart) s (stated earlier) set)
      (under_then (put_apart h.apart) s (equations_of P h.first) cells)

  -- Runs state nothing of the cells.
  pub known_woven : (s : Substitution) (before : Journal) → Solves s (known op (woven read before)) → Solves s (known op before)
  known_woven s before p = subst (λ es. Solves s (es ++ op.cells)) (woven_settings read before) p

  -- A reduction's place is that of its call.
  pub new_place : (w : ℕ) (g : Goal) (r : Reduction) → Contains acts (takes w g r) → (p : Path) → PlaceHas all g.node p → PlaceHas all r.node (p ++ g.item ∷ [])
  new_place w g r c p place =
      let t : WasTaken P.program (map goal_of h.kept) acts g r = was_taken P.program (map goal_of h.kept) _ acts h.done.taken w g r c in
      let in_all : Contains all r = Contains-append_right h.rs (reductions acts) r (taken_reduction acts w g r c) in
      subst (λ (i : ℕ). PlaceHas all r.node (p ++ i ∷ [])) t.item (reduced r p in_all (subst (λ (n : ℕ). PlaceHas all n p) (sym t.parent) place))

  -- A run's terms have the variables of its clause alone.
  pub run_speaks : (r : RunInCells) → item_at P.program r.goal ≡ arithmetic r.what
      → ArithmeticSpeaksOf (IsOwn (clause_at P.program r.goal.clause.0).variables) r.what
  run_speaks r is_arithmetic =
      let k = clause_at P.program r.goal.clause.0 in
      subst (λ i. ItemSpeaksOf (IsOwn k.variables) i) is_arithmetic (item_speaks k.variables k.body (body_is_own P h.own r.goal.clause.0) r.goal.item)

  -- ---- Under a substitution that gives each variable what it gives to its cell

  module _ (s : Substitution) (given : Solves s (cell_equations h.apart h.cells)) where
    -- A reduction asks in the tree what it asks in the cells,
    pub taken_same : (w : ℕ) (g : Goal) (r : Reduction) → Contains acts (takes w g r) → (p : Path) → PlaceHas all g.node p
        → AreSame s (of_cells s) (reduction_equations P.program (p ++ g.item ∷ []) (framed p (term_of P.program g)) r.clause)
        (reduction_in_cells P.program g r.clause r.node)
    taken_same w g r c p place =
        let t : WasTaken P.program (map goal_of h.kept) acts g r = was_taken P.program (map goal_of h.kept) _ acts h.done.taken w g r c in
        let in_all : Contains all r = Contains-append_right h.rs (reductions acts) r (taken_reduction acts w g r c) in
        let there : Stands op all j g = stands g t.there in
        reduction_same P all h.names h.named h.apart h.cells h.have_cells s given h.own g p place there.clause there.based r.node r.clause
        (p ++ g.item ∷ []) (new_place w g r c p place) (inr (r, in_all, refl, refl))

    -- and so does a run.
    pub run_same : (r : RunInCells) → Contains runs r → (x : Run) → IsRunReadAs all r x → AreSame s (of_cells s) (added x.goal x.terms) (added_by_run r)
    run_same r c x is =
        let (was_there, is_arithmetic) = run_was P h.own h.rs h.first h.kept op h.keeps h.apart acts runs j h.done h.acts_read r c in
        let there : Stands op all j r.goal = stands r.goal was_there in
        let here : AreSame s (of_cells s) (added x.goal x.terms) (added (arithmetic_at r.goal.node r.what) r.terms) =
        rw (is.goal, is.terms)
        (added_same P all h.names h.named h.apart h.cells h.have_cells s given r.goal.node r.goal.clause.0 is.path is.place there.clause r.what r.terms
        (run_speaks r is_arithmetic)) in
        subst (λ (b : ℕ). AreSame s (of_cells s) (added x.goal x.terms) (added (arithmetic_at b r.what) r.terms)) (sym there.based) here

  -- ---- What is told

  among_acts : (later earlier : List Act) → acts ≡ later ++ earlier → (a : Act) → Contains earlier a → Contains acts a
  among_acts later earlier are a c = subst (λ (l : List Act). Contains l a) (sym are) (Contains-append_right later earlier a c)

  -- What a worker was told in the tree it was told in the cells.
  pub told_in_cells : (s : Substitution) (later earlier : List Act) (before : Journal) → acts ≡ later ++ earlier
      → AreReadAs P.program all h.apart earlier before → (w : ℕ) → Solves s (made_by P.program w (woven read before) ++ known op (woven read before))
      → Solves (of_cells s) (told_by P (equations_of P h.first) runs w earlier)
  told_in_cells s later earlier before are r w p =
      let own : Solves s (made_by P.program w (woven read before)) =
      solves_front s (made_by P.program w (woven read before)) (known op (woven read before)) p in
      let here : Solves s (known op before) =
      known_woven s before (solves_back s (made_by P.program w (woven read before)) (known op (woven read before)) p) in
      let given : Solves s (cell_equations h.apart h.cells) = cells_given s before here in
      solves_join (of_cells s) (asked_by P.program w earlier ++ added_by w (length earlier) runs) (known_by (equations_of P h.first) earlier)
      (solves_join (of_cells s) (asked_by P.program w earlier) (added_by w (length earlier) runs)
      (asked_by_all P.program (of_cells s) w earlier (λ g x c. reduction g x c given own))
      (added_by_all (of_cells s) w (length earlier) runs (λ x c worker early. ran x c worker early given own)))
      (known_in_cells s earlier before r here)
    where
      reduction : (g : Goal) (x : Reduction) → Contains earlier (takes w g x) → Solves s (cell_equations h.apart h.cells)
          → Solves s (made_by P.program w (woven read before)) → Solves (of_cells s) (reduction_in_cells P.program g x.clause x.node)
      reduction g x c given own =
          let (e, at, (q, place, is)) = act_read P.program all h.apart earlier before r (takes w g x) c in
          let made : MadeBy P.program s w e = made_by_of P.program s w (woven read before) own e (entry_woven read before e at) in
          same_there s (of_cells s) (reduction_equations P.program (q ++ g.item ∷ []) (framed q (term_of P.program g)) x.clause)
          (reduction_in_cells P.program g x.clause x.node)
          (taken_same s given w g x (among_acts later earlier are (takes w g x) c) q place) (subst (λ y. MadeBy P.program s w y) is made refl)

      ran : (x : RunInCells) → Contains runs x → x.worker ≡ w → x.at ≤ length earlier → Solves s (cell_equations h.apart h.cells)
          → Solves s (made_by P.program w (woven read before)) → Solves (of_cells s) (added_by_run x)
      ran x c worker early given own =
          let (y, at, is) = run_in_tree all runs read h.runs_read x c in
          let at_is = is.at in
          let long = length_read P.program all h.apart earlier before r in
          let within : y.at ≤ length before = omega arith in
          let made = made_by_of P.program s w (woven read before) own (entry_of y) (run_woven read before y at within) in
          same_there s (of_cells s) (added y.goal y.terms) (added_by_run x) (run_same s given x c y is) (made (is.worker ∙ worker))

  -- So it is with all that was made,
  pub made_in_cells : (s : Substitution) → Solves s (made P.program (woven read j) ++ known op (woven read j))
      → Solves (of_cells s) (asked P.program acts ++ all_added runs ++ known_by (equations_of P h.first) acts)
  made_in_cells s p =
      let own : Solves s (made P.program (woven read j)) = solves_front s (made P.program (woven read j)) (known op (woven read j)) p in
      let here : Solves s (known op j) = known_woven s j (solves_back s (made P.program (woven read j)) (known op (woven read j)) p) in
      let given : Solves s (cell_equations h.apart h.cells) = cells_given s j here in
      solves_join (of_cells s) (asked P.program acts ++ all_added runs) (known_by (equations_of P h.first) acts)
      (solves_join (of_cells s) (asked P.program acts) (all_added runs)
      (asked_all P.program (of_cells s) acts (λ w g x c. reduction w g x c given own))
      (added_all (of_cells s) runs (λ x c. ran x c given own)))
      (known_in_cells s acts j h.acts_read here)
    where
      reduction : (w : ℕ) (g : Goal) (x : Reduction) → Contains acts (takes w g x) → Solves s (cell_equations h.apart h.cells)
          → Solves s (made P.program (woven read j)) → Solves (of_cells s) (reduction_in_cells P.program g x.clause x.node)
      reduction w g x c given own =
          let (e, at, (q, place, is)) = act_read P.program all h.apart acts j h.acts_read (takes w g x) c in
          let done : Made P.program s e = made_of P.program s (woven read j) own e (entry_woven read j e at) in
          same_there s (of_cells s) (reduction_equations P.program (q ++ g.item ∷ []) (framed q (term_of P.program g)) x.clause)
          (reduction_in_cells P.program g x.clause x.node) (taken_same s given w g x c q place) (subst (λ y. Made P.program s y) is done)

      ran : (x : RunInCells) → Contains runs x → Solves s (cell_equations h.apart h.cells) → Solves s (made P.program (woven read j))
          → Solves (of_cells s) (added_by_run x)
      ran x c given own =
          let (y, at, is) = run_in_tree all runs read h.runs_read x c in
          let at_is = is.at in
          let long = length_read P.program all h.apart acts j h.acts_read in
          let early : x.at ≤ length acts = All-contains (λ (z : RunInCells). z.at ≤ length acts) runs x h.done.in_time c in
          let within : y.at ≤ length j = omega arith in
          same_there s (of_cells s) (added y.goal y.terms) (added_by_run x) (run_same s given x c y is)
          (made_of P.program s (woven read j) own (entry_of y) (run_woven read j y at within))

  -- and the other way round.
  pub made_in_tree : (s : Substitution) → Solves s (known op (woven read j)) → Solves (of_cells s) (asked P.program acts ++ all_added runs)
      → Solves s (made P.program (woven read j))
  made_in_tree s p q =
      let given : Solves s (cell_equations h.apart h.cells) = cells_given s j (known_woven s j p) in
      made_all P.program s (woven read j) (λ e c. elim (woven_cases read j e c) [
        | inl at ↦ let (a, b, is) = entry_read P.program all h.apart acts j h.acts_read e at in entry e a b given is
        | inr x ↦ subst (λ y. Made P.program s y) (sym x.2) (ran x.0 x.1 given)
      ])
    where
      entry : (e : Entry) (a : Act) → Contains acts a → Solves s (cell_equations h.apart h.cells) → IsReadAs P.program all h.apart a e → Made P.program s e
      entry e (takes w g x) c given is =
          subst (λ y. Made P.program s y) (sym is.2)
          (same_back s (of_cells s) (reduction_equations P.program (is.0 ++ g.item ∷ []) (framed is.0 (term_of P.program g)) x.clause)
          (reduction_in_cells P.program g x.clause x.node) (taken_same s given w g x c is.0 is.1)
          (asked_of P.program (of_cells s) acts (solves_front (of_cells s) (asked P.program acts) (all_added runs) q) w g x c))
      entry e (sets w d) c given is = subst (λ y. Made P.program s y) (sym is) tt
      entry e (fails w) c given is = subst (λ y. Made P.program s y) (sym is) tt

      ran : (y : Run) → Contains read y → Solves s (cell_equations h.apart h.cells) → Solves s (added y.goal y.terms)
      ran y at given =
          let (x, c, is) = run_in_cells all runs read h.runs_read y at in
          same_back s (of_cells s) (added y.goal y.terms) (added_by_run x) (run_same s given x c y is)
          (added_of (of_cells s) runs (solves_back (of_cells s) (asked P.program acts) (all_added runs) q) x c)
