-- A branch whose cells were settled keeps what a branch keeps, and where they can't be, its tree is dead.
use Rattle.std.proofs.Common.{ℕ, suc, ◌+◌, ◌≡◌, false, List, ◌++◌, length, map, sym, ap, ◌∙◌, subst, inl, inr, arith, Contains}
use Rattle.std.proofs.lemmas.Bool.{true≢false}
use Rattle.std.proofs.lemmas.List.Elements.{All-contains, All-weaker}
use Rattle.and_model.specs.Terms.{Substitution}
use Rattle.and_model.specs.Solutions.{Equation, Solvable, Entails}
use Rattle.and_model.specs.Trees.{QueryTree, equations, arithmetics}
use Rattle.and_model.specs.Reached.{Dead}
use Rattle.and_model.specs.Reductions.{Reduction, Makes}
use Rattle.and_model.specs.Stands.{Framed, IsFramed}
use Rattle.and_model.specs.Store.{is_half}
use Rattle.and_model.specs.declared.reference.Ref.{Ref}
use Rattle.and_model.specs.declared.reference.Ref.TheVariants.{Free}
use Rattle.and_laws.specs.Naming.{under}
use Rattle.and_laws.proofs.Closing.{closed_entails_ran}
use Rattle.and_laws.proofs.Deciding.{closes_total}
use Rattle.and_laws.proofs.Equality.{bool_cases}
use Rattle.and_laws.proofs.Solving.{solves_join}
use Rattle.and_laws.proofs.Substitutions.{then}
use Rattle.and_cells.specs.Ranges.{NamedProgram, IsGoalInRange, pair_of}
use Rattle.and_cells.specs.Seen.{word_at}
use Rattle.and_cells.specs.Meaning.{equations_of}
use Rattle.and_cells.specs.Solved.{IsMostGeneral}
use Rattle.and_cell_laws.proofs.TermsOfRows.{rows_with_terms_are_solutions}
use Rattle.and_branch_laws.specs.OwnVariables.{OwnVariables, IsLoaded}
use Rattle.and_branch_laws.specs.Variables.{EquationsSpeakOf, IsVariable, AreNames, IsWholeCell}
use Rattle.and_branch_laws.specs.Tasks.{Task, tasks, RanAmong, arithmetic_among}
use Rattle.and_branch_laws.specs.Settling.{Settled}
use Rattle.and_branch_laws.specs.Kept.{task_of, node_item_at, HasFreePair, Kept, Unsettled}
use Rattle.and_branch_laws.proofs.Lists.{all_of}
use Rattle.and_branch_laws.proofs.Speaking.{equations_speak_more, back_under}
use Rattle.and_branch_laws.proofs.Naming.{some_back, names_lead_back}
use Rattle.and_branch_laws.proofs.Growing.{left_speaks}
use Rattle.and_branch_laws.proofs.Tasks.{tree_ran}
use Rattle.and_branch_laws.proofs.Clauses.{goal_range_more}
use Rattle.and_branch_laws.proofs.Rows.{settled_stated, settled_states_old, settled_states_new, settled_terms}
use Rattle.and_branch_laws.proofs.Pairs

-- Where equations that the tree's, named, entail have no solution, the tree is dead.
pub unsolved_is_dead : (P : NamedProgram) → OwnVariables P → (rs : List Reduction) (tree : QueryTree P.program) → Makes P.program rs tree
    → (names : Substitution) → AreNames rs names
    → (solved : List Equation) (left : List Task) → RanAmong (equations tree) (tasks tree) solved left → (ds : List Equation)
    → Entails (under names solved) ds → (Solvable ds → ⊥) → Dead tree
unsolved_is_dead P own rs tree made names named solved left ran ds stated none_is =
    let (es, gs, closed) = closes_total (equations tree) (arithmetics tree) in
    let has : Entails es solved = closed_entails_ran (equations tree) (arithmetics tree) solved (arithmetic_among left) es gs
    (tree_ran tree solved left ran) closed in
    let (back, leads) = some_back P.program rs tree made in (
      es,
      gs,
      closed,
      inl (λ so.
          let t : Substitution = then back so.0 in
          let speaks = (left_speaks P own rs tree made solved left ran).0 in
          none_is (
            t,
            stated t (back_under (IsVariable P rs) names back so.0 solved (names_lead_back P rs names back named leads) speaks
                (has so.0 so.1)),
          )),
    )

module _ (P : NamedProgram) (loaded : IsLoaded P) (rs : List Reduction) (row : List Ref) (es : List Equation) (kept : List Framed)
    (tree : QueryTree P.program) (u : Unsettled P rs row es kept tree) where
  -- Where the row and the equations have no solution, the tree is dead.
  pub unsettled_is_dead : (Solvable (equations_of P row ++ es) → ⊥) → Dead tree
  unsettled_is_dead none_is =
      unsolved_is_dead P loaded.own rs tree u.made u.names u.named u.solved (map (task_of P.program) kept) u.ran
      (equations_of P row ++ es) u.stated none_is

  module _ (new : List Ref) (x : Settled P row new es) where
    same_long : length new ≡ length row
    same_long = let y = x.keeps in y.words

    -- words that are no halves are none now
    still_whole : (m : ℕ) → is_half (word_at row m) ≡ false → is_half (word_at new m) ≡ false
    still_whole m whole =
        elim (bool_cases (is_half (word_at new m))) [ inr e ↦ e | inl e ↦ absurd (true≢false (sym (x.halves m e) ∙ whole)) ]

    speaks_now : EquationsSpeakOf (IsWholeCell new) es
    speaks_now = equations_speak_more (IsWholeCell row) (IsWholeCell new)
        (λ v w. (w.0, (let l = same_long in let low = w.1 in omega arith), still_whole v.1 w.2)) es u.speaks

    new_states : Entails (equations_of P new) (under u.names u.solved)
    new_states t h = u.states t
        (solves_join t (equations_of P row) es (settled_states_old P row new es u.sound x t h)
        (settled_states_new P row new es u.sound x speaks_now t h))

    new_stated : Entails (under u.names u.solved) (equations_of P new)
    new_stated t h = settled_stated P row new es u.sound x t (u.stated t h)

    new_general : IsMostGeneral P new (equations_of P new)
    new_general = rows_with_terms_are_solutions P new x.sound (settled_terms P row new es u.sound x)

    goal_free : (f : Framed) → Contains kept f → HasFreePair P new f.goal (node_item_at P f.goal)
    goal_free f h =
        let c : ℕ = f.goal.clause.0 in
        let base : f.goal.base ≡ f.goal.node = All-contains (λ (g : Framed). g.goal.base ≡ g.goal.node) kept f u.based h in
        let framed = All-contains (IsFramed rs) kept f u.framed h in
        let g = new_general in
        Pairs.has_free_pair P new f.goal (node_item_at P f.goal) (λ l r number e.
        let was = Pairs.free_pair P row f.goal (node_item_at P f.goal) l r number e
        (All-contains (λ (y : Framed). HasFreePair P row y.goal (node_item_at P y.goal)) kept f u.free h) in
        let Claim : ℕ → Type 0 = λ b. is_half (word_at new (pair_of P c b number)) ≡ false
        → is_half (word_at new (suc (pair_of P c b number))) ≡ false
        → (word_at new (pair_of P c b number) ≡ Free) × (word_at new (suc (pair_of P c b number)) ≡ Free) in
        let at_base : Claim f.goal.base =
        subst Claim (sym base)
        (Pairs.pair_is_free P loaded rs tree u.made new x.sound u.names u.named u.solved
        (left_speaks P loaded.own rs tree u.made u.solved (map (task_of P.program) kept) u.ran).0 new_stated
        g.solution (new_states g.solution g.most_general.0) f.goal.node c f.goal.item l r number framed.1 e) in
        at_base (still_whole (pair_of P c f.goal.base number) (ap is_half was.0))
        (still_whole (suc (pair_of P c f.goal.base number)) (ap is_half was.1)))

    -- Where they were settled, the branch keeps what a branch keeps.
    pub settled_kept : Kept P rs new kept tree
    settled_kept = record {
      has = record {
        made = u.made;
        long = same_long ∙ u.long;
        sound = x.sound;
        framed = u.framed;
        based = u.based;
        in_range = All-weaker (λ (f : Framed). IsGoalInRange P (length row) f.goal) (λ (f : Framed). IsGoalInRange P (length new) f.goal)
            (λ f r. let e = same_long in goal_range_more P (length row) (length new) f.goal (omega arith) r) kept u.in_range;
        once = u.once;
        solved = u.solved;
        ran = u.ran;
        names = u.names;
        named = u.named;
        whole = λ v i. still_whole (i.node + 1 + v.1) (u.whole v i);
        free = all_of (λ (f : Framed). HasFreePair P new f.goal (node_item_at P f.goal)) kept goal_free;
      };
      settled = x.settled;
      states = new_states;
      stated = new_stated;
    }
