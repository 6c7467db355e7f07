use Rattle.and_phase.proofs.Jobs.{one_in}
use Rattle.and_phase.proofs.dealing.taken_in.Goals as goal

pub loop-last-preserved : goal.loop-last-preserved
loop-last-preserved c =
    one_in c.args.ended.items c.loop-last.ended.items c.pop.new.self.items c.loop-last.passes c.put_pass.new.passes c.loop-last.tolds.items
    c.push.new.self.items c.in-Some.last c.in-Some-told.told c.loop-last.invariant c.in-Some.ensures.items c.in-Some-told.is c.in_ok-put_pass.ensures
    c.in_ok-push.ensures.items
