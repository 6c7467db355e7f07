use Rattle.and_lex.proofs.Completeness.{one_list}
use Rattle.and_lex.proofs.laws.one_list_of_tokens.Goals as goal

pub returns : goal.returns
returns c bytes p ts us a b i j h k = one_list bytes a b i j h k
