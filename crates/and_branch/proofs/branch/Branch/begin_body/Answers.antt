use Rattle.std.proofs.Common.{ℕ, suc, ◌≡◌, ◌+◌, Ok, refl, ap, ◌∙◌, subst, arith}
use Rattle.std.proofs.lemmas.Result.{on_ok_weaker}
use Rattle.and_branch_parts.specs.Rounds.{StepsOn}
use Rattle.and_branch_parts.proofs.LookedGoals.{no_steps, steps_then, still_branch}
use Rattle.and_branch.specs.Bodies.{with_body, with_next}
use Rattle.and_branch.proofs.CallsInHand.{no_step_to}
use Rattle.and_branch.proofs.branch.Branch.begin_body.Goals as goal

pub places-init : goal.places-init
places-init g c =
    let P = g.N.Naming.program in record {
      within = omega arith;
      live = c.requires.live;
      used = refl;
      same = record { key = refl; limit = refl };
      steps = no_steps P (with_body P c.args.clause.0 c.args.node 0 c.args.self.now);
    }

pub begin_item-requires-clause-branch : goal.begin_item-requires-clause-branch
begin_item-requires-clause-branch g c =
    let P = g.N.Naming.program in
    still_branch P (with_body P c.args.clause.0 c.args.node 0 c.args.self.now)
    (with_body P c.args.clause.0 c.args.node c.places.place c.places.self) c.places.invariant.steps c.requires.branch

pub places-preserved : goal.places-preserved
places-preserved g c =
    let P = g.N.Naming.program in
    let first = with_body P c.args.clause.0 c.args.node 0 c.args.self.now in
    let here = with_body P c.args.clause.0 c.args.node c.places.place c.places.self in
    let after = with_body P c.args.clause.0 c.args.node (suc c.places.place) c.begin_item.new.self in
    let ran = c.begin_item.ensures.ran (c.in_ok-begin_item.was ∙ ap Ok c.in-Ran.is) in
    let same = c.begin_item.ensures.same in
    let one : suc c.places.place ≡ c.places.place + 1 = omega arith in record {
      within = let low = ran.0 in omega arith;
      live = ran.1;
      used = c.in_ok-begin_item.ensures.used ∙ c.places.invariant.used;
      same = record { key = same.key ∙ c.places.invariant.same.key; limit = same.limit ∙ c.places.invariant.same.limit };
      steps = subst (λ (k : ℕ). StepsOn P first (with_body P c.args.clause.0 c.args.node k c.begin_item.new.self)) one
          (steps_then P first here after c.places.invariant.steps ran.2);
    }

pub places-smaller : goal.places-smaller
places-smaller g c =
    let ran = c.begin_item.ensures.ran (c.in_ok-begin_item.was ∙ ap Ok c.in-Ran.is) in
    let low = ran.0 in omega arith

pub put_behind-requires-clause-branch : goal.put_behind-requires-clause-branch
put_behind-requires-clause-branch g c =
    let P = g.N.Naming.program in
    let first = with_body P c.args.clause.0 c.args.node 0 c.args.self.now in
    let here = with_body P c.args.clause.0 c.args.node c.places.place c.places.self in
    let there = with_body P c.args.clause.0 c.args.node c.places.place c.begin_item.new.self in
    let stays = c.begin_item.ensures.stays (c.in_ok-begin_item.was ∙ ap Ok c.in-Stays.is) in
    still_branch P first there (steps_then P first here there c.places.invariant.steps stays.1) c.requires.branch

pub returns-in-Stays-clause-used : goal.returns-in-Stays-clause-used
returns-in-Stays-clause-used g c =
    on_ok_weaker c.put_behind.result (λ used. used ∙ c.in_ok-begin_item.ensures.used ∙ c.places.invariant.used) c.put_behind.ensures.used

pub returns-in-Stays-clause-call : goal.returns-in-Stays-clause-call
returns-in-Stays-clause-call g c = λ h m is.
    let P = g.N.Naming.program in
    let first = with_body P c.args.clause.0 c.args.node 0 c.args.self.now in
    let here = with_body P c.args.clause.0 c.args.node c.places.place c.places.self in
    let there = with_body P c.args.clause.0 c.args.node c.places.place c.begin_item.new.self in
    let stays = c.begin_item.ensures.stays (c.in_ok-begin_item.was ∙ ap Ok c.in-Stays.is) in
    let before = steps_then P first here there c.places.invariant.steps stays.1 in
    let (hand, whole) = c.put_behind.ensures.call h m is in
    let after = with_next h c.put_behind.new.self in (hand, steps_then P first there after before (no_step_to P there after whole))

pub returns-in-Stays-clause-other : goal.returns-in-Stays-clause-other
returns-in-Stays-clause-other g c = λ is.
    let P = g.N.Naming.program in
    let first = with_body P c.args.clause.0 c.args.node 0 c.args.self.now in
    let here = with_body P c.args.clause.0 c.args.node c.places.place c.places.self in
    let there = with_body P c.args.clause.0 c.args.node c.places.place c.begin_item.new.self in
    let stays = c.begin_item.ensures.stays (c.in_ok-begin_item.was ∙ ap Ok c.in-Stays.is) in
    let before = steps_then P first here there c.places.invariant.steps stays.1 in
    steps_then P first there c.put_behind.new.self before (no_step_to P there c.put_behind.new.self (c.put_behind.ensures.other is))

pub returns-in-Failed-clause-other : goal.returns-in-Failed-clause-other
returns-in-Failed-clause-other g c = λ _.
    let P = g.N.Naming.program in
    let first = with_body P c.args.clause.0 c.args.node 0 c.args.self.now in
    let here = with_body P c.args.clause.0 c.args.node c.places.place c.places.self in
    steps_then P first here c.begin_item.new.self c.places.invariant.steps
    (c.begin_item.ensures.failed (c.in_ok-begin_item.was ∙ ap Ok c.in-Failed.is))
