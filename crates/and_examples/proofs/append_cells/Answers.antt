use Rattle.and_examples.proofs.AppendCells
use Rattle.and_examples.proofs.AppendListing
use Rattle.and_examples.proofs.append_cells.Goals as goal

pub returns-clause-weights : goal.returns-clause-weights
returns-clause-weights c = AppendCells.weights

pub returns-clause-first : goal.returns-clause-first
returns-clause-first c = AppendCells.first

pub returns-clause-second : goal.returns-clause-second
returns-clause-second c = AppendCells.second

pub returns-clause-left_open : goal.returns-clause-left_open
returns-clause-left_open c = AppendCells.left_open

pub returns-clause-no_tree : goal.returns-clause-no_tree
returns-clause-no_tree c = AppendCells.no_tree

pub returns-clause-first_ends : goal.returns-clause-first_ends
returns-clause-first_ends c = AppendCells.first_ends

pub returns-clause-second_ends : goal.returns-clause-second_ends
returns-clause-second_ends c = AppendCells.second_ends

pub returns-clause-listing : goal.returns-clause-listing
returns-clause-listing c = AppendListing.listing

pub returns-clause-exhausted : goal.returns-clause-exhausted
returns-clause-exhausted c = AppendListing.exhausted

pub returns-clause-not_over : goal.returns-clause-not_over
returns-clause-not_over c = AppendListing.not_over
