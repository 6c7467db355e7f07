use Rattle.std.proofs.Common.{◌∙◌, sym, refl, subst, ℕ, length}
use Rattle.std.proofs.lemmas.List.{drop_all}
use Rattle.and_model.specs.declared.numbers.ClauseNo.{ClauseNo}
use Rattle.and_lint.specs.Marked.{AreBelow}
use Rattle.and_lint.proofs.Marking.{all_before, all_reached, below_at, grows_on, grows_same, one_more_reached}
use Rattle.and_lint.proofs.reaching.Reached.reach_all.Goals as goal

pub returns-then-is_first_reached : goal.returns-then-is_first_reached
returns-then-is_first_reached c = record {
  marked = all_before c.args.self.now.marks.items c.args.clauses.now c.requires.even (sym c.is_first_reached.ensures ∙ c.if-is_first_reached.true);
  grows = grows_same c.args.self.now.marks.items c.args.self.now.work.items;
}

pub loop-no-init : goal.loop-no-init
loop-no-init c = (grows_same c.args.self.now.marks.items c.args.self.now.work.items, λ d. refl)

pub reach-requires : goal.reach-requires
reach-requires c =
    let zero_no : ClauseNo = record { 0 = 0 } in
    below_at (length c.loop-no.self.marks.items) c.args.clauses.now c.loop-no.no-index zero_no
    (subst (λ (n : ℕ). AreBelow n c.args.clauses.now) (sym c.loop-no.invariant.0.long) c.requires.below) c.loop-no-test.true

pub loop-no-preserved : goal.loop-no-preserved
loop-no-preserved c =
    let zero_no : ClauseNo = record { 0 = 0 } in (
      grows_on c.args.self.now.marks.items c.loop-no.self.marks.items c.reach.new.self.marks.items c.args.self.now.work.items c.loop-no.self.work.items
          c.reach.new.self.work.items
          c.loop-no.invariant.0 c.in_ok-reach.ensures.grows,
      one_more_reached c.args.self.now.marks.items c.loop-no.self.marks.items c.reach.new.self.marks.items c.args.clauses.now c.loop-no.no-index zero_no
          c.loop-no-test.true c.loop-no.invariant.1 c.in_ok-reach.ensures.marked,
    )

pub returns : goal.returns
returns c = record {
  marked = all_reached c.args.self.now.marks.items c.loop-no.self.marks.items c.args.clauses.now _
      (drop_all c.loop-no.no-index c.args.clauses.now c.loop-no-test.false)
      c.loop-no.invariant.1;
  grows = c.loop-no.invariant.0;
}
