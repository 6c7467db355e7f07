use Rattle.and_answers.proofs.CutLemmas.{put_same, put_all}
use Rattle.and_answers.proofs.cutting.put_before.Goals as goal

pub returns-then-has_some-clause-same : goal.returns-then-has_some-clause-same
returns-then-has_some-clause-same c =
    put_same c.args.tails.items c.push.new.self.items c.args.tail c.args.runs.now.items c.in_ok-push.ensures.items

pub returns-clause-same : goal.returns-clause-same
returns-clause-same c =
    put_all c.args.tails.items c.push.new.self.items c.new-left.result.items c.args.tail c.args.runs.now.items c.push-2.new.self.items
    c.in_ok-push.ensures.items c.in_ok-push-2.ensures.items c.new-left.ensures.items
