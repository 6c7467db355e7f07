-- A goal of arithmetic that a branch keeps can be run.
use Rattle.std.proofs.Common.{ℕ, suc, ◌+◌, ◌≡◌, ◌<◌, ◌≤◌, List, [], length, refl, sym, ap, ◌∙◌, subst, inl, inr, ◌⊎◌, arith, Contains}
use Rattle.std.proofs.lemmas.List.Elements.{All-contains}
use Rattle.and_model.specs.Terms.{Path}
use Rattle.and_model.specs.Programs.{Arithmetic, arithmetic, clause_at, clause_weight}
use Rattle.and_model.specs.Trees.{QueryTree}
use Rattle.and_model.specs.Reductions.{Reduction}
use Rattle.and_model.specs.Stands.{ClauseHas, Framed}
use Rattle.and_model.specs.declared.reference.Ref.{Ref}
use Rattle.and_model.specs.declared.reference.Ref.TheVariants.{Free}
use Rattle.and_program.specs.Skeletons
use Rattle.and_program.specs.Skeletons.{NodeItem}
use Rattle.and_laws.specs.Naming.{under}
use Rattle.and_cells.specs.Ranges.{NamedProgram, IsGoalInRange, pair_of}
use Rattle.and_cells.specs.Seen.{word_at}
use Rattle.and_branch_laws.specs.OwnVariables.{IsLoaded}
use Rattle.and_branch_laws.specs.Variables.{SpeaksOf, EquationsSpeakOf, IsVariable}
use Rattle.and_branch_laws.specs.Kept.{item_at, node_item_at, HasFreePair, Kept}
use Rattle.and_branch_laws.proofs.Speaking.{speaks_variable, equations_speak_under}
use Rattle.and_branch_laws.proofs.Keeping
use Rattle.and_branch_laws.proofs.Reading.{row_general}
use Rattle.and_branch_laws.proofs.Unnamed.{IsOther, unnamed_not_named}
use Rattle.and_branch_laws.proofs.Pairs
use Rattle.and_branch_laws.proofs.Asking.{pair_is_free, goal_cells_whole}
use Rattle.and_step_laws.specs.Runs.{IsUnnamed, HasUnnamedPair, CanBeRun}

module _ (P : NamedProgram) (loaded : IsLoaded P) (rs : List Reduction) (row : List Ref) (kept : List Framed) (tree : QueryTree P.program)
    (k : Kept P rs row kept tree) (f : Framed) (f_kept : Contains kept f) where
  based : f.goal.base ≡ f.goal.node
  based = Keeping.base_of P loaded.own rs row kept tree k f f_kept

  clause_is : ClauseHas rs f.goal.node f.goal.clause.0
  clause_is = Keeping.clause_of P loaded.own rs row kept tree k f f_kept

  module _ (nl nr num : ℕ) (node : node_item_at P f.goal ≡ Skeletons.is nl nr num) where
    pair : ℕ
    pair = pair_of P f.goal.clause.0 f.goal.base num

    within : (f.goal.base + 1 + (clause_at P.program f.goal.clause.0).variables ≤ pair_of P f.goal.clause.0 f.goal.base num)
        × (suc (pair_of P f.goal.clause.0 f.goal.base num) < f.goal.base + clause_weight (clause_at P.program f.goal.clause.0))
    within =
        let c : ℕ = f.goal.clause.0 in
        let Claim : ℕ → Type 0 = λ b. (b + 1 + (clause_at P.program c).variables ≤ pair_of P c b num)
        × (suc (pair_of P c b num) < b + clause_weight (clause_at P.program c)) in
        subst Claim (sym based) (Pairs.pair_within P loaded rs tree k.made f.goal.node c f.goal.item nl nr num clause_is node)

    -- no variable has its cell there
    no_variable : (m : ℕ) → (m ≡ pair_of P f.goal.clause.0 f.goal.base num) ⊎ (m ≡ suc (pair_of P f.goal.clause.0 f.goal.base num))
        → (v : Path × ℕ) (i : IsVariable P rs v) → i.node + 1 + v.1 ≡ m → ⊥
    no_variable m in_pair v i e =
        let w = within in
        let low = w.0 in
        let high = w.1 in
        let b = based in
        Pairs.behind_variables P rs tree k.made f.goal.node f.goal.clause.0 clause_is m
        (elim in_pair [ inl a ↦ omega arith | inr a ↦ omega arith ]) (elim in_pair [ inl a ↦ omega arith | inr a ↦ omega arith ]) v i e

    others_speak : (m : ℕ) → (m ≡ pair_of P f.goal.clause.0 f.goal.base num) ⊎ (m ≡ suc (pair_of P f.goal.clause.0 f.goal.base num))
        → EquationsSpeakOf (IsOther m) (under k.names k.solved)
    others_speak m in_pair =
        equations_speak_under (IsVariable P rs) (IsOther m) k.names k.solved
        (λ v i. subst (λ x. SpeaksOf (IsOther m) x) (sym (Keeping.name_of P loaded.own rs row kept tree k v i))
        (speaks_variable (IsOther m) [] (i.node + 1 + v.1) (λ e s. no_variable m in_pair v i s)))
        (Keeping.solved_speaks P loaded.own rs row kept tree k)

    unnamed : (m : ℕ) → (m ≡ pair_of P f.goal.clause.0 f.goal.base num) ⊎ (m ≡ suc (pair_of P f.goal.clause.0 f.goal.base num))
        → word_at row m ≡ Free → IsUnnamed P row m
    unnamed m in_pair free by r set whole named =
        let g = row_general P loaded.own rs row kept tree k in
        unnamed_not_named P row (under k.names k.solved) k.sound k.stated g.solution (k.states g.solution g.most_general.0) m
        (others_speak m in_pair) by r set whole (λ e. set.1 (sym set.0 ∙ ap (word_at row) e ∙ free)) named

    both_unnamed : IsUnnamed P row (pair_of P f.goal.clause.0 f.goal.base num) × IsUnnamed P row
        (suc (pair_of P f.goal.clause.0 f.goal.base num))
    both_unnamed =
        let free = pair_is_free P rs row kept tree k f f_kept nl nr num node in (
          unnamed (pair_of P f.goal.clause.0 f.goal.base num) (inl refl) free.0,
          unnamed (suc (pair_of P f.goal.clause.0 f.goal.base num))
              (inr refl) free.1,
        )

  unnamed_pair : (i : NodeItem) → node_item_at P f.goal ≡ i → HasUnnamedPair P row f.goal i
  unnamed_pair (Skeletons.call n) e = tt
  unnamed_pair (Skeletons.equal n m) e = tt
  unnamed_pair (Skeletons.is n m number) e = both_unnamed n m number e
  unnamed_pair (Skeletons.compare o n m) e = tt
  unnamed_pair Skeletons.fail e = tt

  -- The pair of a kept `is` goal is named by no word.
  pub kept_pair_is_unnamed : HasUnnamedPair P row f.goal (node_item_at P f.goal)
  kept_pair_is_unnamed = unnamed_pair (node_item_at P f.goal) refl

  -- A kept goal that is arithmetic can be run.
  pub kept_can_be_run : (a : Arithmetic) → item_at P.program f.goal ≡ arithmetic a → CanBeRun P row f.goal
  kept_can_be_run a is = record {
    in_range = All-contains (λ (g : Framed). IsGoalInRange P (length row) g.goal) kept f k.in_range f_kept;
    what = a;
    is_arithmetic = is;
    whole = goal_cells_whole P loaded.own rs row kept tree k f f_kept;
    free = All-contains (λ (g : Framed). HasFreePair P row g.goal (node_item_at P g.goal)) kept f k.free f_kept;
    unnamed = kept_pair_is_unnamed;
  }
