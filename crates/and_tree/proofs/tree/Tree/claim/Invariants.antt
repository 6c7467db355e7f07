use Rattle.and_histories.specs.PlainTree.{claim}
use Rattle.and_tree.specs.Sight.{mine_of}
use Rattle.and_tree.proofs.tree.Tree.claim.Given as goal

abbrev pub ghosts-claim_in_vain : goal.ghosts-claim_in_vain
ghosts-claim_in_vain g a = record { event = claim (mine_of a.seat.now.me.0).team a.cell a.serial }

abbrev pub ghosts-claim_cell : goal.ghosts-claim_cell
ghosts-claim_cell g a = record { event = claim (mine_of a.seat.now.me.0).team a.cell a.serial }
