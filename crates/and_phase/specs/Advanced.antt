-- Branches that were brought to their state (this project's own).
use Rattle.std.specs.Prelude.{ℕ}
use Rattle.and_model.specs.Trees.{QueryTree, Open}
use Rattle.and_cells.specs.Ranges.{NamedProgram}
use Rattle.and_branch_laws.specs.States.{StateOf, determinate}
use Rattle.and_branch.specs.Branches.{Held, IsBranchOf, SameKey}
use Rattle.and_branch.specs.States.{IsState, IsAtRest}
use Rattle.and_branch.specs.declared.state.BranchState.{BranchState}
use Rattle.and_branch.specs.declared.state.BranchState.TheVariants.{Fork, Answer, Floundered, Failed, OverLimit}
use Rattle.and_phase.specs.Leading.{LeadsOn}
use Rattle.and_phase.specs.declared.advanced.Advanced.{Advanced}

-- The branch stands for the same key, and for a tree to which Steps lead from the old one's. What is told is the
-- state of this tree, of which no goal is determinate.
pub record HasAdvanced {N : Type 0} (P : NamedProgram) (old : Held) (r : Advanced N) : Type 0 where
  pub same : SameKey old r.branch
  pub steps : LeadsOn P old r.branch
  pub judged : (t : QueryTree P.program) → IsBranchOf P r.branch t → IsState P r.branch t r.state
  pub at_rest : IsAtRest P r.branch r.state
  pub done : (t : QueryTree P.program) (o : Open t) (c : ℕ) → IsBranchOf P r.branch t
      → StateOf P.program r.branch.limit t (determinate o c) → ⊥

-- The branch came to rest: it is neither failed nor cut.
abbrev pub ComesToRest : BranchState → Type 0
ComesToRest (Fork goal clauses cut) = Unit {0}
ComesToRest Answer = Unit {0}
ComesToRest Floundered = Unit {0}
ComesToRest Failed = ⊥
ComesToRest (OverLimit cut) = ⊥
