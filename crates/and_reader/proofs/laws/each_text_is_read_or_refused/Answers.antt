use Rattle.and_reader.proofs.EachText.{each_judged}
use Rattle.and_reader.proofs.laws.each_text_is_read_or_refused.Goals as goal

pub returns : goal.returns
returns c = each_judged
