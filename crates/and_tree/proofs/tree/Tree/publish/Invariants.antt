use Rattle.and_histories.specs.PlainTree.{publish}
use Rattle.and_tree.specs.Sight.{mine_of}
use Rattle.and_tree.proofs.tree.Tree.publish.Given as goal

abbrev pub ghosts-load_to_publish : goal.ghosts-load_to_publish
ghosts-load_to_publish g a = record { event = publish (mine_of a.seat.now.me.0).team a.cell (g.B.Keyed.key_of a.branch.now) }
