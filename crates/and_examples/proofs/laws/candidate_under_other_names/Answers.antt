use Rattle.and_examples.proofs.LawExamples
use Rattle.and_examples.proofs.laws.candidate_under_other_names.Goals as goal

pub returns-clause-in_its_frame : goal.returns-clause-in_its_frame
returns-clause-in_its_frame c = LawExamples.in_its_frame

pub returns-clause-nothing_in_five : goal.returns-clause-nothing_in_five
returns-clause-nothing_in_five c = LawExamples.nothing_in_five

pub returns-clause-in_frame_five : goal.returns-clause-in_frame_five
returns-clause-in_frame_five c = LawExamples.in_frame_five

pub returns-clause-renamed : goal.returns-clause-renamed
returns-clause-renamed c = LawExamples.renamed
