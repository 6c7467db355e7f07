use Rattle.std.proofs.Common.{[], ◌∷◌, ◌++◌, ap, sym, arith}
use Rattle.and_team_rows.proofs.Scripted.{Stage, turned, forked_root, ended_known, team_on, held_on, few_on, at_first}
use Rattle.and_team_rows.proofs.plain.calls.Goals as goal

pub fork-requires : goal.fork-requires
fork-requires c =
    let stage : Stage c.in_ok-tree.tree.state (([] ∷ []) ∷ []) 8 = record
    { hands_are = c.in_ok-tree.ensures.hands; cells_are = c.in_ok-tree.ensures.cells } in
    let split = c.in_ok-split.split in
    let (key_is, longer_is) = c.in_ok-split.ensures.key in record {
      hand = held_on 0 split.key stage (at_first split.key [] [] key_is);
      longer = (split.longer, ap (λ k. k ++ split.longer) (sym key_is));
      is_fork = tt;
      few = few_on 0 _ _ stage (rw c.in_ok-split.ensures.clauses (omega arith));
    }

pub left-requires : goal.left-requires
left-requires c =
    let stage : Stage c.in_ok-tree.tree.state (([] ∷ []) ∷ []) 8 = record
    { hands_are = c.in_ok-tree.ensures.hands; cells_are = c.in_ok-tree.ensures.cells } in
    team_on 0 (turned stage c.in_ok-fork.ensures.ok) (omega arith)

pub retire-requires : goal.retire-requires
retire-requires c =
    let stage : Stage c.in_ok-tree.tree.state (([] ∷ []) ∷ []) 8 = record
    { hands_are = c.in_ok-tree.ensures.hands; cells_are = c.in_ok-tree.ensures.cells } in
    let (key_is, longer_is) = c.in_ok-split.ensures.key in
    let forked = forked_root (1 ∷ 2 ∷ []) key_is longer_is c.in_ok-split.ensures.clauses stage c.in_ok-fork.ensures.ok in
    held_on 0 c.in_ok-key_of_one.field-0 (turned forked c.left.ensures)
    (at_first c.in_ok-key_of_one.field-0 (1 ∷ []) ((2 ∷ []) ∷ []) c.in_ok-key_of_one.ensures)

pub answer-requires : goal.answer-requires
answer-requires c =
    let stage : Stage c.in_ok-tree.tree.state (([] ∷ []) ∷ []) 8 = record
    { hands_are = c.in_ok-tree.ensures.hands; cells_are = c.in_ok-tree.ensures.cells } in
    let (key_is, longer_is) = c.in_ok-split.ensures.key in
    let forked = forked_root (1 ∷ 2 ∷ []) key_is longer_is c.in_ok-split.ensures.clauses stage c.in_ok-fork.ensures.ok in
    let retired = ended_known (1 ∷ []) c.in_ok-key_of_one.ensures (turned forked c.left.ensures) c.retire-2.ensures in
    held_on 0 c.in_ok-key_of_one-2.field-0 retired (at_first c.in_ok-key_of_one-2.field-0 (2 ∷ []) [] c.in_ok-key_of_one-2.ensures)
