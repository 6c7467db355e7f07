use Rattle.and_walk.proofs.Finding.{found_failed, few_same}
use Rattle.and_walk.proofs.finder.FinderVisitor.see_failed.Goals as goal

pub returns-clause-told : goal.returns-clause-told
returns-clause-told c = λ seen has.
    let s = c.args.self.now in
    let n = c.count_failed.new.self in (
      found_failed s.found n seen c.args._depth has.0 c.count_failed.ensures.failed c.count_failed.ensures.forks c.count_failed.ensures.rest,
      few_same s.most s.found n c.count_failed.ensures.rest.1 has.1,
    )
