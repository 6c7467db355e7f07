use Rattle.and_walk.proofs.Finding.{found_none, few_none}
use Rattle.and_walk.proofs.finder.Coder.new.Goals as goal

pub returns-clause-found : goal.returns-clause-found
returns-clause-found c =
    (found_none c.new.result c.new.ensures.entries c.new.ensures.end, few_none c.args.most c.new.result c.new.ensures.entries)
