use Rattle.and_lint.proofs.Valueless.{no_value}
use Rattle.and_lint.proofs.laws.what_is_told_has_no_value.Goals as goal

pub returns : goal.returns
returns c = λ t s e. no_value t s e
