use Rattle.std.proofs.Common.{[], ◌∷◌, refl, arith}
use Rattle.and_team_rows.proofs.Scripted.{Stage, turned, taken_over, team_on, cell_on, held_on, at_first}
use Rattle.and_team_rows.proofs.plain.handed_over.Goals as goal

pub claim-requires : goal.claim-requires
claim-requires c =
    let stage : Stage c.in_ok-tree.tree.state (([] ∷ []) ∷ [] ∷ []) 16 = record
    { hands_are = c.in_ok-tree.ensures.hands; cells_are = c.in_ok-tree.ensures.cells } in
    record { team = team_on 1 stage (omega arith); cell = cell_on 0 stage (omega arith) }

pub publish-requires : goal.publish-requires
publish-requires c =
    let stage : Stage c.in_ok-tree.tree.state (([] ∷ []) ∷ [] ∷ []) 16 = record
    { hands_are = c.in_ok-tree.ensures.hands; cells_are = c.in_ok-tree.ensures.cells } in
    let missed = turned stage (c.in_ok-seen.ensures.moved c.in-Moved.seen (rw c.in-Moved.is)) in record {
      team = team_on 0 missed (omega arith);
      stands = tt;
      hand = held_on 0 c.in_ok-tree.branch.key missed (at_first c.in_ok-tree.branch.key [] [] c.in_ok-tree.ensures.key);
      own = (omega arith, omega arith);
    }

pub claim-requires-2 : goal.claim-requires-2
claim-requires-2 c =
    let stage : Stage c.in_ok-tree.tree.state (([] ∷ []) ∷ [] ∷ []) 16 = record
    { hands_are = c.in_ok-tree.ensures.hands; cells_are = c.in_ok-tree.ensures.cells } in
    let missed = turned stage (c.in_ok-seen.ensures.moved c.in-Moved.seen (rw c.in-Moved.is)) in
    let published = turned missed (c.publish.ensures.done c.in-Done.is) in
    record { team = team_on 1 published (omega arith); cell = cell_on 1 published (omega arith) }

pub retire-requires : goal.retire-requires
retire-requires c =
    let stage : Stage c.in_ok-tree.tree.state (([] ∷ []) ∷ [] ∷ []) 16 = record
    { hands_are = c.in_ok-tree.ensures.hands; cells_are = c.in_ok-tree.ensures.cells } in
    let missed = turned stage (c.in_ok-seen.ensures.moved c.in-Moved.seen (rw c.in-Moved.is)) in
    let published = turned missed (c.publish.ensures.done c.in-Done.is) in
    let taken = taken_over published (c.in_ok-branch.ensures.taken c.in-Taken.branch (rw c.in-Taken.is)).1 in
    held_on 1 c.in-Taken.branch.key taken (at_first c.in-Taken.branch.key c.in-Taken.branch.key [] refl)

pub left-requires : goal.left-requires
left-requires c =
    let stage : Stage c.in_ok-tree.tree.state (([] ∷ []) ∷ [] ∷ []) 16 = record
    { hands_are = c.in_ok-tree.ensures.hands; cells_are = c.in_ok-tree.ensures.cells } in
    let missed = turned stage (c.in_ok-seen.ensures.moved c.in-Moved.seen (rw c.in-Moved.is)) in
    let published = turned missed (c.publish.ensures.done c.in-Done.is) in
    let taken = taken_over published (c.in_ok-branch.ensures.taken c.in-Taken.branch (rw c.in-Taken.is)).1 in
    team_on 1 (turned taken c.retire.ensures) (omega arith)
