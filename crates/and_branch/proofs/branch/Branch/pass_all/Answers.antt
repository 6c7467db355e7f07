use Rattle.std.proofs.Common.{refl, ◌∙◌}
use Rattle.and_branch_parts.proofs.MovedBranches.{moved_twice, moved_nowhere}
use Rattle.and_branch_parts.proofs.SoughtGoals.{shorter}
use Rattle.and_branch.proofs.branch.Branch.pass_all.Goals as goal

pub loop-self-init : goal.loop-self-init
loop-self-init g c = record { same = record { key = refl; limit = refl }; moved = moved_nowhere c.args.self.now }

pub loop-self-smaller : goal.loop-self-smaller
loop-self-smaller g c =
    let (h, rest, is) = c.has_next.ensures.next c.loop-self-test.true in
    let (right, left) = c.in_ok-pass.ensures.passed h rest is in
    shorter c.loop-self.self.right c.pass.new.self.right h rest is right

pub loop-self-preserved : goal.loop-self-preserved
loop-self-preserved g c = record {
  same = let one = c.pass.ensures.same in let two = c.loop-self.invariant.same in
      record { key = one.key ∙ two.key; limit = one.limit ∙ two.limit };
  moved = moved_twice c.args.self.now c.loop-self.self c.pass.new.self c.loop-self.invariant.moved c.in_ok-pass.ensures.moved;
}
