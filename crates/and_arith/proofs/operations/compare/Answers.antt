use Rattle.std.proofs.Common.{ap, ◌∙◌, ◌&&◌, not, int_le, int_lt}
use Rattle.and_arith.proofs.Numbers.{as_read}
use Rattle.and_arith.proofs.operations.compare.Goals as goal

pub returns-in-Less : goal.returns-in-Less
returns-in-Less c = rw c.in-Less.is (as_read int_lt _ _ c.ranges.left c.ranges.right)

pub returns-in-Greater : goal.returns-in-Greater
returns-in-Greater c = rw c.in-Greater.is (as_read int_lt _ _ c.ranges.right c.ranges.left)

pub returns-in-AtMost : goal.returns-in-AtMost
returns-in-AtMost c = rw c.in-AtMost.is (as_read int_le _ _ c.ranges.left c.ranges.right)

pub returns-in-AtLeast : goal.returns-in-AtLeast
returns-in-AtLeast c = rw c.in-AtLeast.is (as_read int_le _ _ c.ranges.right c.ranges.left)

pub returns-in-Same : goal.returns-in-Same
returns-in-Same c = rw c.in-Same.is (c.are_same.ensures ∙ as_read (λ x y. int_le x y && int_le y x) _ _ c.ranges.left c.ranges.right)

pub returns-in-Differs : goal.returns-in-Differs
returns-in-Differs c =
    rw c.in-Differs.is (ap not (c.are_same-in-Differs.ensures ∙ as_read (λ x y. int_le x y && int_le y x) _ _ c.ranges.left c.ranges.right))
