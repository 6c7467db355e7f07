use Rattle.and_part_steps.proofs.Running
use Rattle.and_part_steps.proofs.what_cannot_hold_is_dead.Goals as goal

pub returns : goal.returns
returns c = λ P rs frames part front f back t loaded k cannot. Running.cannot_dies P loaded rs frames part front f back t k cannot
