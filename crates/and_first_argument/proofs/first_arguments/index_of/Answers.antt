use Rattle.and_first_argument.proofs.AdditionsLemmas.{fills_step}
use Rattle.and_first_argument.proofs.first_arguments.index_of.Goals as goal

pub loop-addition-preserved : goal.loop-addition-preserved
loop-addition-preserved c =
    fills_step c.args.additions.now c.loop-addition.addition-index _ c.loop-addition.index c.add_to_index.new.index
    c.loop-addition-test.true c.in_ok-add_to_index.ensures c.loop-addition.invariant
