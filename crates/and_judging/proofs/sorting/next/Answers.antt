use Rattle.and_judging.proofs.SortedThere.{outline_there}
use Rattle.and_judging.proofs.sorting.next.Goals as goal

pub returns-clause-there : goal.returns-clause-there
returns-clause-there c = λ n all.
    outline_there n c.args.sorting.now.sorted.outlines.items c.push.new.self.items (record { scope = c.args.sorting.now.here.scope; pieces = c.new.result })
    c.in_ok-push.ensures.items c.new.ensures.items all
