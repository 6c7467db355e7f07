use Rattle.and_search_laws.specs.Ended.{SameButCut}
use Rattle.and_walk.proofs.Finding.{found_cut, few_same}
use Rattle.and_walk.proofs.finder.FinderVisitor.see_cut.Goals as goal

pub returns-clause-told : goal.returns-clause-told
returns-clause-told c = λ seen has.
    let s = c.args.self.now in
    let n = c.keep_cut.new.found in
    let same : SameButCut s.found n = c.keep_cut.ensures.same in (
      found_cut s.found n seen c.args._depth c.args.heavy has.0 same c.keep_cut.ensures.cut,
      few_same s.most s.found n same.entries has.1,
    )
