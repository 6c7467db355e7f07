use Rattle.std.proofs.Common.{suc, ◌≡◌, length, ap, ◌∙◌, arith}
use Rattle.std.proofs.lemmas.List.{length_push}
use Rattle.and_phase.proofs.Jobs.{job_more}
use Rattle.and_phase.proofs.dealing.jobs_of.Goals as goal

pub loop-hand-preserved : goal.loop-hand-preserved
loop-hand-preserved c =
    let longer = ap length c.in-Some.ensures.items ∙ length_push c.pop.new.self.items c.in-Some.hand in
    let one : length c.loop-hand.hands.items ≡ suc (length c.pop.new.self.items) = omega arith in
    let number : c.len-number.result ≡ length c.pop.new.self.items = omega arith in
    job_more (length c.args.hands.items) c.args.passes (length c.loop-hand.hands.items) (length c.pop.new.self.items) c.loop-hand.passes
    c.pop-in-Some.new.self c.loop-hand.jobs.items c.push.new.self.items _ c.loop-hand.invariant one c.in-Some-pop.ensures.last number
    c.in_ok-push.ensures.items
