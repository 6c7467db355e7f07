use Rattle.and_histories.specs.PlainTree.{fork}
use Rattle.and_tree.specs.Forked.{Fork}
use Rattle.and_tree.specs.Sight.{mine_of}
use Rattle.and_tree.proofs.tree.Tree.fork.Given as goal

abbrev pub ghosts-add_to_live : goal.ghosts-add_to_live
ghosts-add_to_live g a =
    let split : Fork = g.S.Forking.fork_of a.split.now in
    record { event = fork (mine_of a.seat.now.me.0).team split.key split.longer split.clauses }
