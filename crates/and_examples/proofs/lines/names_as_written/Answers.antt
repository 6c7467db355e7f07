use Rattle.and_examples.proofs.LineExamples
use Rattle.and_examples.proofs.lines.names_as_written.Goals as goal

pub returns-clause-plain : goal.returns-clause-plain
returns-clause-plain c = LineExamples.plain

pub returns-clause-quote : goal.returns-clause-quote
returns-clause-quote c = LineExamples.quote

pub returns-clause-brackets : goal.returns-clause-brackets
returns-clause-brackets c = LineExamples.brackets

pub returns-clause-capital : goal.returns-clause-capital
returns-clause-capital c = LineExamples.capital

pub returns-clause-plus : goal.returns-clause-plus
returns-clause-plus c = LineExamples.plus

pub returns-clause-point : goal.returns-clause-point
returns-clause-point c = LineExamples.point

pub returns-clause-points : goal.returns-clause-points
returns-clause-points c = LineExamples.points

pub returns-clause-comment : goal.returns-clause-comment
returns-clause-comment c = LineExamples.comment

pub returns-clause-comment_later : goal.returns-clause-comment_later
returns-clause-comment_later c = LineExamples.comment_later

pub returns-clause-empty : goal.returns-clause-empty
returns-clause-empty c = LineExamples.empty

pub returns-clause-comma : goal.returns-clause-comma
returns-clause-comma c = LineExamples.comma

pub returns-clause-escapes : goal.returns-clause-escapes
returns-clause-escapes c = LineExamples.escapes
