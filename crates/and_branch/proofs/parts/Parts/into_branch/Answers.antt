use Rattle.std.proofs.Common.{◌∙◌}
use Rattle.and_branch.specs.Parts.{held_of}
use Rattle.and_branch_parts.proofs.PassedGoals.{given_left, given_right, given_watched, remade}
use Rattle.and_branch.proofs.parts.Parts.into_branch.Goals as goal

pub returns-clause-branch : goal.returns-clause-branch
returns-clause-branch g c =
    let are = c.in-Ok.ensures in
    remade (held_of c.args.self) _ _ _ _ (given_left c.in-Ok.goals _ are ∙ c.deref.ensures.value) (given_right c.in-Ok.goals _ are)
    (given_watched c.in-Ok.goals _ are) c.none.ensures
