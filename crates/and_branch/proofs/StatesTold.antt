-- What was told of a branch: its state.
use Rattle.std.proofs.Common.{ℕ, ◌≡◌, ◌∙◌, inl, inr, sym, subst}
use Rattle.and_model.specs.Trees.{QueryTree}
use Rattle.and_cells.specs.Ranges.{NamedProgram}
use Rattle.and_branch_laws.specs.States.{State, StateOf}
use Rattle.and_branch_parts.specs.Branches.{Held, IsBranchOf}
use Rattle.and_branch_parts.specs.Ended.{HasEnded}
use Rattle.and_branch.specs.States.{IsState, IsAtRest}
use Rattle.and_branch.specs.declared.state.BranchState.{BranchState}
use Rattle.and_branch.specs.declared.state.BranchState.TheVariants as told

-- The state is any but a failed one.
abbrev IsUnfailed : BranchState → Type 0
IsUnfailed (told.Fork goal clauses cut) = Unit {0}
IsUnfailed told.Answer = Unit {0}
IsUnfailed told.Floundered = Unit {0}
IsUnfailed told.Failed = ⊥
IsUnfailed (told.OverLimit cut) = Unit {0}

-- A branch that is told to have floundered has ended.
pub has_floundered : (P : NamedProgram) (b : Held) (s : BranchState) (t : QueryTree P.program) → IsBranchOf P b t → s ≡ told.Floundered
    → IsState P b t told.Floundered → IsAtRest P b s → HasEnded P b
has_floundered P b s t branch is state at_rest = record {
  tree = t;
  branch = branch;
  state = inr state;
  at_rest = at_rest (λ e. subst (λ x. IsUnfailed x) (sym is ∙ e) tt);
}

-- So has one that is told to be an answer.
pub has_answered : (P : NamedProgram) (b : Held) (s : BranchState) (t : QueryTree P.program) → IsBranchOf P b t → s ≡ told.Answer
    → IsState P b t told.Answer → IsAtRest P b s → HasEnded P b
has_answered P b s t branch is state at_rest = record {
  tree = t;
  branch = branch;
  state = inl state;
  at_rest = at_rest (λ e. subst (λ x. IsUnfailed x) (sym is ∙ e) tt);
}

module _ (P : NamedProgram) where
  -- the state of a branch, as it was told
  pub state_told : (b : Held) (s r : BranchState) → s ≡ r → ((t : QueryTree P.program) → IsBranchOf P b t → IsState P b t s)
      → (t : QueryTree P.program) → IsBranchOf P b t → IsState P b t r
  state_told b s r same state t branch = subst (λ x. IsState P b t x) same (state t branch)

module _ (P : NamedProgram) (limit : ℕ) where
  -- the state under this limit
  pub state_within : (b : Held) (t : QueryTree P.program) (s : State t) → b.limit ≡ limit → StateOf P.program b.limit t s
      → StateOf P.program limit t s
  state_within b t s same x = subst (λ n. StateOf P.program n t s) same x
