use Rattle.and_examples.proofs.TermExamples
use Rattle.and_examples.proofs.terms.renamed_solution.Goals as goal

pub returns-clause-general : goal.returns-clause-general
returns-clause-general c = TermExamples.general

pub returns-clause-renamed : goal.returns-clause-renamed
returns-clause-renamed c = TermExamples.renamed

pub returns-clause-renamed_is_not : goal.returns-clause-renamed_is_not
returns-clause-renamed_is_not c = TermExamples.renamed_is_not
