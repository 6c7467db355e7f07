use Rattle.std.proofs.Common.{sym, refl, ◌∙◌}
use Rattle.and_arith.proofs.Operating.{none_of_values}
use Rattle.and_arith.proofs.walk.of_two.Goals as goal

pub returns-in_err-operator_of : goal.returns-in_err-operator_of
returns-in_err-operator_of c =
    c.from_residual.ensures
    ∙ sym (none_of_values c.args.name.0 c.args.left c.args.right (λ o is. let some = (c.in_err-operator_of.ensures o).1 (is, refl) in absurd (cc)))
