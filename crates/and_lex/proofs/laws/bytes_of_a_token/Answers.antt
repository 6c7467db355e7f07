use Rattle.and_lex.proofs.Written.{written}
use Rattle.and_lex.proofs.laws.bytes_of_a_token.Goals as goal

pub returns : goal.returns
returns c = written
