use Rattle.and_histories.specs.PlainTree.{clear}
use Rattle.and_tree.specs.Sight.{mine_of}
use Rattle.and_tree.proofs.tree.Tree.take_out.Given as goal

abbrev pub ghosts-clear_cell : goal.ghosts-clear_cell
ghosts-clear_cell g a = record { event = clear (mine_of a.seat.now.me.0).team a.cell }
