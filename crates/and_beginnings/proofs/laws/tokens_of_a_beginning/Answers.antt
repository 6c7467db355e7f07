use Rattle.and_beginnings.proofs.Alike.{tokens_alike}
use Rattle.and_beginnings.proofs.laws.tokens_of_a_beginning.Goals as goal

pub returns : goal.returns
returns c = tokens_alike
