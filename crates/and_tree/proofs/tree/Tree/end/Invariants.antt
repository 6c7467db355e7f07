use Rattle.and_histories.specs.PlainTree.{end}
use Rattle.and_tree.specs.Counted.{ending_of, with_last}
use Rattle.and_tree.specs.Sight.{mine_of}
use Rattle.and_tree.proofs.tree.Tree.end.Given as goal

abbrev pub ghosts-take_from_live : goal.ghosts-take_from_live
ghosts-take_from_live g a = record { event = end (mine_of a.seat.now.me.0).team (with_last a.longer.now.value a.last) (ending_of a.how) }
