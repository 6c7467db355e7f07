use Rattle.and_histories.specs.PlainTree.{look}
use Rattle.and_tree.specs.Sight.{mine_of}
use Rattle.and_tree.proofs.tree.Tree.look.Given as goal

abbrev pub ghosts-look_at_cell : goal.ghosts-look_at_cell
ghosts-look_at_cell g a = record { event = look (mine_of a.seat.now.me.0).team a.cell }
