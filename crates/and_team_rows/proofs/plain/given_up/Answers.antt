use Rattle.std.proofs.Common.{[], ◌∷◌, arith}
use Rattle.and_team_rows.proofs.Scripted.{Stage, turned, team_on, held_on, at_first}
use Rattle.and_team_rows.proofs.plain.given_up.Goals as goal

pub give_up-requires : goal.give_up-requires
give_up-requires c =
    let stage : Stage c.in_ok-tree.tree.state (([] ∷ []) ∷ [] ∷ []) 16 = record
    { hands_are = c.in_ok-tree.ensures.hands; cells_are = c.in_ok-tree.ensures.cells } in
    held_on 0 c.in_ok-tree.branch.key stage (at_first c.in_ok-tree.branch.key [] [] c.in_ok-tree.ensures.key)

pub left-requires : goal.left-requires
left-requires c =
    let stage : Stage c.in_ok-tree.tree.state (([] ∷ []) ∷ [] ∷ []) 16 = record
    { hands_are = c.in_ok-tree.ensures.hands; cells_are = c.in_ok-tree.ensures.cells } in
    team_on 1 (turned stage c.give_up.ensures) (omega arith)
