use Rattle.and_tree.proofs.Turning.{opened_left}
use Rattle.and_tree.proofs.plain.PlainTree.open.Goals as goal

pub invariant_of-result : goal.invariant_of-result
invariant_of-result g c = opened_left c.in_ok-places.places c.args.limit c.args.teams c.requires.teams.0 c.in_ok-places.ensures.ok
