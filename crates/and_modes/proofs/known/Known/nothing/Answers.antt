use Rattle.and_modes.proofs.Knowing.{nothing_known}
use Rattle.and_modes.proofs.known.Known.nothing.Goals as goal

pub returns : goal.returns
returns c = nothing_known 256
