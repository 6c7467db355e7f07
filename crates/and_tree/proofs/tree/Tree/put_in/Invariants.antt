use Rattle.and_histories.specs.PlainTree.{publish}
use Rattle.and_tree.specs.Sight.{mine_of}
use Rattle.and_tree.proofs.Sizes.{key_in_slot}
use Rattle.and_tree.proofs.tree.Tree.put_in.Given as goal

abbrev pub ghosts-open_cell : goal.ghosts-open_cell
ghosts-open_cell g a = record { event = publish (mine_of a.seat.now.me.0).team a.cell (key_in_slot g.B.Keyed.key_of a.seat.now.me.1) }
