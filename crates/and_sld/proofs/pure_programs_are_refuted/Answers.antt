use Rattle.and_sld.proofs.Pure.{none_wait, refuted}
use Rattle.and_sld.proofs.pure_programs_are_refuted.Goals as goal

pub returns-clause-none_wait : goal.returns-clause-none_wait
returns-clause-none_wait c = none_wait

pub returns-clause-refuted : goal.returns-clause-refuted
returns-clause-refuted c = refuted
