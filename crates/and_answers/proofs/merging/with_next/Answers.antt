use Rattle.std.proofs.lemmas.Result.{IfOk-weaker}
use Rattle.and_answers.proofs.MergeLemmas.{joined_two}
use Rattle.and_answers.proofs.merging.with_next.Goals as goal

pub returns-in-Some-clause-same : goal.returns-in-Some-clause-same
returns-in-Some-clause-same c = IfOk-weaker c.merged.result _ _
    (λ both merged. joined_two c.args.run c.in-Some.other both c.args.runs.now.items c.pop.new.self.items c.in-Some.ensures.items merged)
    c.merged.ensures
