use Rattle.and_examples.proofs.LawExamples
use Rattle.and_examples.proofs.laws.line_under_other_names.Goals as goal

pub returns-clause-variants : goal.returns-clause-variants
returns-clause-variants c = LawExamples.variants

pub returns-clause-same_line : goal.returns-clause-same_line
returns-clause-same_line c = LawExamples.same_line

pub returns-clause-that_line : goal.returns-clause-that_line
returns-clause-that_line c = LawExamples.that_line
