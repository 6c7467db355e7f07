use Rattle.and_tree.specs.Counted.{tally}
use Rattle.and_tree.proofs.Turning.{turn_left}
use Rattle.and_tree.proofs.plain.PlainTree.left.Goals as goal

pub returns : goal.returns
returns g c = turn_left c.args.self.now c.self.inside.places (tally c.self.inside.counts) c.self.inside.left c.args.team c.self.view_is
    c.self.invariant c.requires
