use Rattle.and_examples.proofs.LineExamples
use Rattle.and_examples.proofs.lines.names_of_every_table.Goals as goal

pub returns-clause-own_names : goal.returns-clause-own_names
returns-clause-own_names c = LineExamples.own_names

pub returns-clause-name_differs : goal.returns-clause-name_differs
returns-clause-name_differs c = LineExamples.name_differs

pub returns-clause-ends : goal.returns-clause-ends
returns-clause-ends c = LineExamples.ends
