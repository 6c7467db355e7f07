use Rattle.and_heads.proofs.arguments.compare_structures.Goals as goal

pub compare-requires-clause-one_written : goal.compare-requires-clause-one_written
compare-requires-clause-one_written g c = λ pair e. absurd (cc)

pub compare-requires-clause-other_written : goal.compare-requires-clause-other_written
compare-requires-clause-other_written g c = λ pair e. absurd (cc)
