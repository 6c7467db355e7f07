-- What a team knows of the branch that is left has one proof at most.
use Rattle.std.specs.Prelude.{ℕ, Option, Some, None}
use Rattle.std.proofs.Props.{props}
use Rattle.and_branch.specs.Branches.{Held}
use Rattle.and_answers.specs.declared.found.Found.{Found}
use Rattle.and_tasks.specs.Working.{LeftShares}

pub left_shares-prop : (found : Found) (common : ℕ) (left : Option Held) → IsProp (LeftShares found common left)
left_shares-prop found common None = hlevel props
left_shares-prop found common (Some b) = hlevel props
