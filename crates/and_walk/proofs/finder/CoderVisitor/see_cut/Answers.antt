use Rattle.and_search_laws.specs.Ended.{SameButCut}
use Rattle.and_walk.proofs.Finding.{found_cut, few_same}
use Rattle.and_walk.proofs.finder.CoderVisitor.see_cut.Goals as goal

pub returns-clause-told : goal.returns-clause-told
returns-clause-told c = λ seen has.
    let s = c.args.self.now in
    let n = c.keep_cut.new.self in
    let same : SameButCut s.latest n =
    (record { entries = c.keep_cut.ensures.rest; forks = c.keep_cut.ensures.counts.0; failed = c.keep_cut.ensures.counts.1 }) in (
      found_cut s.latest n seen c.args._depth c.args.heavy has.0 same c.keep_cut.ensures.cut,
      few_same s.most s.latest n same.entries has.1,
    )
