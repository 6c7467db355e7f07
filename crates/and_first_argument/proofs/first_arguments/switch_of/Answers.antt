use Rattle.std.proofs.Common.{rules}
use Rattle.and_first_argument.proofs.AdditionsLemmas.{fills_step, room_for_one}
use Rattle.and_first_argument.proofs.first_arguments.switch_of.Goals as goal

pub add_to_switch-requires : goal.add_to_switch-requires
add_to_switch-requires g c = (
  search rules,
  room_for_one c.args.additions.now c.loop-addition.addition-index _ c.loop-addition.switch g.row.W
      c.loop-addition-test.true c.loop-addition.invariant c.requires,
)

pub loop-addition-preserved : goal.loop-addition-preserved
loop-addition-preserved g c =
    fills_step c.args.additions.now c.loop-addition.addition-index _ c.loop-addition.switch c.add_to_switch.new.switch
    c.loop-addition-test.true c.in_ok-add_to_switch.ensures c.loop-addition.invariant
