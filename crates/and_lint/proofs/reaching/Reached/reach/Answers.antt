use Rattle.std.proofs.Common.{◌∙◌, sym}
use Rattle.and_lint.proofs.Marking.{grows_same, marked_set, reach_one, reached_before}
use Rattle.and_lint.proofs.reaching.Reached.reach.Goals as goal

pub returns-then-is_marked : goal.returns-then-is_marked
returns-then-is_marked c = record {
  marked = λ d. reached_before c.args.self.now.marks.items c.args.no.0 d (sym c.is_marked.ensures ∙ c.if-is_marked.true);
  grows = grows_same c.args.self.now.marks.items c.args.self.now.work.items;
}

pub returns : goal.returns
returns c = record {
  marked = λ d. marked_set c.args.self.now.marks.items c.args.no.0 d c.requires;
  grows = reach_one c.args.self.now.marks.items c.args.self.now.work.items c.push.new.self.items c.args.no c.requires
      (sym c.is_marked.ensures ∙ c.if-is_marked.false) c.in_ok-push.ensures.items;
}
