use Rattle.and_answers.proofs.AlikeLemmas.{alike_more}
use Rattle.and_answers.proofs.comparing.all_in_common.Goals as goal

pub returns : goal.returns
returns c = alike_more c.args.one.now c.args.other.now c.args.common c.in_common.result c.requires c.in_common.ensures
