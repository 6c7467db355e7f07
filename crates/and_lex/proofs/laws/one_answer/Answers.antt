use Rattle.and_lex.proofs.Completeness.{one_answer}
use Rattle.and_lex.proofs.laws.one_answer.Goals as goal

pub returns : goal.returns
returns c = one_answer
