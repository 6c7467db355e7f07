use Rattle.and_examples.proofs.CoveringExamples
use Rattle.and_examples.proofs.histories.fork_by_candidates.Goals as goal

pub returns-clause-candidate_covers : goal.returns-clause-candidate_covers
returns-clause-candidate_covers c = CoveringExamples.candidate_covers

pub returns-clause-nothing_within : goal.returns-clause-nothing_within
returns-clause-nothing_within c = CoveringExamples.nothing_within
