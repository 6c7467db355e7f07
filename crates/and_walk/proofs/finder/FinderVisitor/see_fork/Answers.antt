use Rattle.std.proofs.Common.{◌∙◌}
use Rattle.and_branch.specs.States.{numbers}
use Rattle.and_search_laws.specs.Ended.{SameButCut}
use Rattle.and_walk.proofs.Finding.{found_fork, few_same}
use Rattle.and_walk.proofs.finder.FinderVisitor.see_fork.Goals as goal

pub returns-clause-told : goal.returns-clause-told
returns-clause-told c = λ seen has.
    let s = c.args.self.now in
    let n = c.keep_cut.new.found in
    let same : SameButCut c.count_fork.new.self n = c.keep_cut.ensures.same in (
      found_fork s.found c.count_fork.new.self n seen c.args._depth (numbers c.args._clauses.now) c.args.heavy has.0
          c.count_fork.ensures.forks c.count_fork.ensures.failed c.count_fork.ensures.rest same c.keep_cut.ensures.cut,
      few_same s.most s.found n (same.entries ∙ c.count_fork.ensures.rest.1) has.1,
    )
