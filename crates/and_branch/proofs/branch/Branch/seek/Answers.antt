use Rattle.std.proofs.Common.{refl, ◌∙◌, rules}
use Rattle.and_branch_parts.proofs.SoughtGoals.{there_last, still_before, some_last, there_back, come_to}
use Rattle.and_branch_parts.proofs.MovedBranches.{moved_twice, moved_nowhere}
use Rattle.and_branch.proofs.branch.Branch.seek.Goals as goal

pub loop-goal-init : goal.loop-goal-init
loop-goal-init g c =
    let past = c.in_ok-pass_all.ensures in record {
      same = record { key = refl; limit = refl };
      moved = moved_nowhere c.pass_all.new.self;
      there = there_last c.args.self.now c.pass_all.new.self c.args.goal c.requires.there past.moved past.last;
    }

pub pass_back-requires : goal.pass_back-requires
pass_back-requires g c =
    let b = c.loop-goal.self in
    some_last b.left c.args.goal (still_before b c.args.goal c.loop-goal.invariant.there (c.is_next.ensures.another (search rules)))

pub loop-goal-smaller : goal.loop-goal-smaller
loop-goal-smaller g c =
    let b = c.loop-goal.self in
    let (front, last, is) = some_last b.left c.args.goal
    (still_before b c.args.goal c.loop-goal.invariant.there (c.is_next.ensures.another (search rules))) in
    let (left, right) = c.in_ok-pass_back.ensures.passed front last is in
    come_to b.left c.pass_back.new.self.left front last is left

pub loop-goal-preserved : goal.loop-goal-preserved
loop-goal-preserved g c =
    let b = c.loop-goal.self in
    let there = still_before b c.args.goal c.loop-goal.invariant.there (c.is_next.ensures.another (search rules)) in
    let (front, last, is) = some_last b.left c.args.goal there in
    let (left, right) = c.in_ok-pass_back.ensures.passed front last is in record {
      same = let one = c.pass_back.ensures.same in let two = c.loop-goal.invariant.same in
          record { key = one.key ∙ two.key; limit = one.limit ∙ two.limit };
      moved = moved_twice c.pass_all.new.self b c.pass_back.new.self c.loop-goal.invariant.moved c.in_ok-pass_back.ensures.moved;
      there = there_back c.pass_back.new.self b.left front last c.args.goal b.right there is left right;
    }

pub returns-clause-moved : goal.returns-clause-moved
returns-clause-moved g c =
    moved_twice c.args.self.now c.pass_all.new.self c.loop-goal.self c.in_ok-pass_all.ensures.moved c.loop-goal.invariant.moved
