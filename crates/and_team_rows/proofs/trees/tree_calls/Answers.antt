use Rattle.std.proofs.Common.{◌∙◌, ap}
use Rattle.and_team_rows.proofs.trees.tree_calls.Goals as goal

pub meet-requires : goal.meet-requires
meet-requires c = record {
  tree = (c.in_ok-branch.ensures.tree, (c.claim.ensures.moved c.in-Moved.seen c.in-Moved.is).tree ∙ ap (λ p. p.tree) c.in_ok-tree.ensures.2);
}

pub claimed-requires-2-clause-tree : goal.claimed-requires-2-clause-tree
claimed-requires-2-clause-tree c =
    ap (λ p. p.tree) c.meet.ensures.second.becomes ∙ (c.claim.ensures.moved c.in-Moved.seen c.in-Moved.is).tree ∙ ap (λ p. p.tree) c.in_ok-tree.ensures.2
