use Rattle.and_walk_laws.proofs.Walking.{explored}
use Rattle.and_walk_laws.proofs.walks_explore.Goals as goal

pub returns : goal.returns
returns c = explored
