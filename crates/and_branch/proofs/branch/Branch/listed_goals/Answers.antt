use Rattle.std.proofs.Common.{List, ◌≡◌, ◌++◌, subst}
use Rattle.std.specs.Prelude.{IfOk}
use Rattle.and_model.specs.declared.goal.Goal.{Goal}
use Rattle.and_branch_parts.specs.Branches.{Held}
use Rattle.and_branch_parts.proofs.WatchedLists.{goals_append}
use Rattle.and_branch.proofs.branch.Branch.listed_goals.Goals as goal

pub returns : goal.returns
returns g c =
    let left = c.self.inside.goals.left in
    let right = c.self.inside.goals.right in
    subst (λ (h : Held). IfOk c.all.result (λ goals. goals.items ≡ h.left ++ h.right)) c.self.view_is
    (subst (λ (gs : List Goal). IfOk c.all.result (λ goals. goals.items ≡ gs)) (goals_append left right) c.all.ensures)
