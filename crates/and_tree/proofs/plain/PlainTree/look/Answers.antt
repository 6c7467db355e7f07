use Rattle.and_tree.specs.Counted.{tally}
use Rattle.and_tree.specs.Replies.{seen_of}
use Rattle.and_tree.proofs.Turning.{turn_look}
use Rattle.and_tree.proofs.plain.PlainTree.look.Goals as goal

pub returns : goal.returns
returns g c = turn_look c.args.self.now c.self.inside.places (tally c.self.inside.counts) (seen_of c.seen.result) c.args.team c.args.cell
    c.self.view_is c.seen.ensures c.requires.team c.requires.cell
