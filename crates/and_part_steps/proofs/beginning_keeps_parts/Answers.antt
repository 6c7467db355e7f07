use Rattle.and_part_steps.proofs.Beginning
use Rattle.and_part_steps.proofs.beginning_keeps_parts.Goals as goal

pub returns : goal.returns
returns c = λ P new loaded settled sets. Beginning.begun_kept P loaded new settled sets
