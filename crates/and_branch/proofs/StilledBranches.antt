-- What is told of a branch with which the rounds have ended.
use Rattle.std.proofs.Common.{◌≡◌, true, sym, ◌∙◌, subst, inl, inr, Ok, Err}
use Rattle.std.specs.Prelude.{Result, OnOk, IfOk}
use Rattle.std.proofs.lemmas.Bool.{true≢false}
use Rattle.std.proofs.lemmas.Result.{on_ok_weaker}
use Rattle.and_model.specs.Trees.{QueryTree}
use Rattle.and_model.specs.Reached.{Steps}
use Rattle.and_cells.specs.Ranges.{NamedProgram}
use Rattle.and_branch_parts.specs.Branches.{Held, IsBranchOf}
use Rattle.and_branch_parts.specs.Rounds.{StepsOn, IsStill}
use Rattle.and_branch.specs.States.{IsState, IsAtRest}
use Rattle.and_branch.specs.declared.state.BranchState.{BranchState}
use Rattle.and_branch.specs.declared.state.BranchState.TheVariants.{Failed}

-- One that is marked failed has failed.
pub failed_state : (P : NamedProgram) (b : Held) → b.is_failed ≡ true → (t : QueryTree P.program) → IsBranchOf P b t → IsState P b t Failed
failed_state P b failed t x = elim x.state [ inl dead ↦ dead.1 | inr lives ↦ absurd (true≢false (sym failed ∙ lives.live)) ]

-- Where nothing was changed since, what was told is told of the branch as it is now.
module _ {E : Type 0} (P : NamedProgram) (old now : Held) where
  pub told_steps : (first : Held) (r : Result BranchState E) → OnOk r (now ≡ old) → StepsOn P first old
      → OnOk r ((t : QueryTree P.program) → IsBranchOf P first t → (u : QueryTree P.program) × IsBranchOf P now u × Steps t u)
  told_steps first r same on =
      on_ok_weaker r (λ e. let x : StepsOn P first now = subst (λ (b : Held). StepsOn P first b) (sym e) on in x.each) same

  pub told_state : (r : Result BranchState E) → OnOk r (now ≡ old)
      → IfOk r (λ s. (t : QueryTree P.program) → IsBranchOf P old t → IsState P old t s)
      → IfOk r (λ s. (t : QueryTree P.program) → IsBranchOf P now t → IsState P now t s)
  told_state (Ok s) same h =
      subst (λ (b : Held). (t : QueryTree P.program) → IsBranchOf P b t → IsState P b t s) (sym same) h
  told_state (Err e) same h = h

  pub told_at_rest : (r : Result BranchState E) → OnOk r (now ≡ old) → IsStill P old → IfOk r (λ s. IsAtRest P now s)
  told_at_rest (Ok s) same still =
      subst (λ (b : Held). IsAtRest P b s) (sym same) (λ other g i a. (let idle = still g i in idle.waits))
  told_at_rest (Err e) same still = tt
