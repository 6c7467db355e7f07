use Rattle.and_examples.proofs.ViewExamples
use Rattle.and_examples.proofs.cells.lines_in_cells.Goals as goal

pub returns-clause-line_before : goal.returns-clause-line_before
returns-clause-line_before c = ViewExamples.line_before

pub returns-clause-line_after : goal.returns-clause-line_after
returns-clause-line_after c = ViewExamples.line_after
