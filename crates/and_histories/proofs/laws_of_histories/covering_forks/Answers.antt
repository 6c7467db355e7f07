use Rattle.and_histories.proofs.laws_of_histories.covering_forks.Goals as goal
use Rattle.and_histories.proofs.CoveringForks

pub returns : goal.returns
returns c = CoveringForks.covering_forks
