use Rattle.and_walk_laws.proofs.Owing
use Rattle.and_walk_laws.proofs.owed_steps.Goals as goal

pub returns-clause-root : goal.returns-clause-root
returns-clause-root c = Owing.owed_root

pub returns-clause-steps : goal.returns-clause-steps
returns-clause-steps c = Owing.owed_steps

pub returns-clause-dead : goal.returns-clause-dead
returns-clause-dead c = Owing.owed_dead

pub returns-clause-ended : goal.returns-clause-ended
returns-clause-ended c = Owing.owed_end

pub returns-clause-over : goal.returns-clause-over
returns-clause-over c = Owing.owed_over

pub returns-clause-forked : goal.returns-clause-forked
returns-clause-forked c = Owing.owed_fork

pub returns-clause-empty : goal.returns-clause-empty
returns-clause-empty c = Owing.owed_none
