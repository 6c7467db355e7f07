use Rattle.and_forks.proofs.Counted.{same_text}
use Rattle.and_forks.proofs.laws.one_text.Goals as goal

pub returns : goal.returns
returns c = same_text
