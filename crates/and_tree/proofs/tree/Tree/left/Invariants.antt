use Rattle.and_histories.specs.PlainTree.{left}
use Rattle.and_tree.specs.Sight.{mine_of}
use Rattle.and_tree.proofs.tree.Tree.left.Given as goal

abbrev pub ghosts-load_live : goal.ghosts-load_live
ghosts-load_live g a = record { event = left (mine_of a.seat.now.me.0).team }
