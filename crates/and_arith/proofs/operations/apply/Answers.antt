use Rattle.std.proofs.Common.{ap, Some, None, int_div, int_le, if◌then◌else◌, ◌∙◌, ◌+ℤ◌, ◌-ℤ◌, ◌*ℤ◌, w64}
use Rattle.std.proofs.lemmas.Int.{to_z-of_z}
use Rattle.and_model.specs.Arithmetic.{of_two, in_range, is_zero}
use Rattle.and_arith.proofs.Numbers.{both_read, as_read, floored_of}
use Rattle.and_arith.proofs.operations.apply.Goals as goal

pub returns-in-Add : goal.returns-in-Add
unfolding of_two
returns-in-Add c = rw c.in-Add.is (both_read _ (λ x y. x +ℤ y) _ _ c.ranges.left c.ranges.right c.checked_add.ensures)

pub returns-in-Subtract : goal.returns-in-Subtract
unfolding of_two
returns-in-Subtract c = rw c.in-Subtract.is (both_read _ (λ x y. x -ℤ y) _ _ c.ranges.left c.ranges.right c.checked_sub.ensures)

pub returns-in-Times : goal.returns-in-Times
unfolding of_two
returns-in-Times c = rw c.in-Times.is (both_read _ (λ x y. x *ℤ y) _ _ c.ranges.left c.ranges.right c.checked_mul.ensures)

pub returns-in-Divide : goal.returns-in-Divide
unfolding of_two
returns-in-Divide c = rw c.in-Divide.is (c.quotient.ensures
    ∙ as_read (λ x y. if is_zero y then None else in_range (int_div x y)) _ _ c.ranges.left c.ranges.right)

pub returns-in-Modulo : goal.returns-in-Modulo
unfolding of_two
returns-in-Modulo c = rw c.in-Modulo.is (c.floored.ensures ∙ as_read floored_of _ _ c.ranges.left c.ranges.right)

pub returns-in-Remainder : goal.returns-in-Remainder
unfolding of_two
returns-in-Remainder c =
    rw c.in-Remainder.is (c.remainder.ensures ∙ as_read (λ x y. if is_zero y then None else Some (x -ℤ y *ℤ int_div x y)) _ _ c.ranges.left c.ranges.right)

pub returns-in-Least : goal.returns-in-Least
unfolding of_two
returns-in-Least c = rw c.in-Least.is
    (ap Some (to_z-of_z w64 _ (record { sfits = c.least.type_inv }) ∙ c.least.ensures
    ∙ as_read (λ x y. if int_le x y then x else y) _ _ c.ranges.left c.ranges.right))

pub returns-in-Greatest : goal.returns-in-Greatest
unfolding of_two
returns-in-Greatest c = rw c.in-Greatest.is
    (ap Some (to_z-of_z w64 _ (record { sfits = c.greatest.type_inv }) ∙ c.greatest.ensures
    ∙ as_read (λ x y. if int_le x y then y else x) _ _ c.ranges.left c.ranges.right))
