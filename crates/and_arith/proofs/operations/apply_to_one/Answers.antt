use Rattle.std.proofs.Common.{◌≡◌, ◌∙◌, false, nat_eq, refl, ap, rules, w64}
use Rattle.std.proofs.lemmas.Int.{to_z-of_z}
use Rattle.and_model.specs.Arithmetic.{of_one}
use Rattle.and_model.specs.declared.builtins.TheConstants.{MINUS}
use Rattle.and_arith.proofs.Operating.{differs}
use Rattle.and_arith.proofs.operations.apply_to_one.Goals as goal

pub returns-in-12 : goal.returns-in-12
returns-in-12 c = rw c.in-12.is (c.negate.ensures ∙ ap (λ x. of_one MINUS x) (to_z-of_z w64 c.args.value c.ranges.value))

pub returns-in_default : goal.returns-in_default
unfolding of_one
returns-in_default c =
    let minus : nat_eq c.args.name MINUS ≡ false = differs c.args.name MINUS (search rules) in
    rw minus refl
