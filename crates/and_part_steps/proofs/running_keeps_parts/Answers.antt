use Rattle.and_part_steps.proofs.Running
use Rattle.and_part_steps.proofs.running_keeps_parts.Goals as goal

pub returns : goal.returns
returns c = λ P rs frames part new front f back t loaded k run sets. Running.ran_kept P loaded rs frames part front f back t k new run sets
