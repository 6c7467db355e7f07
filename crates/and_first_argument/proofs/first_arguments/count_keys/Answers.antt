use Rattle.and_first_argument.proofs.AdditionsLemmas.{keys_step}
use Rattle.and_first_argument.proofs.first_arguments.count_keys.Goals as goal

pub loop-addition-preserved : goal.loop-addition-preserved
loop-addition-preserved c =
    keys_step c.args.additions.now c.loop-addition.addition-index _ c.loop-addition.keys.keys c.note_key.new.keys.keys
    c.loop-addition-test.true c.in_ok-note_key.ensures c.loop-addition.invariant
