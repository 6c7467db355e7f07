use Rattle.std.proofs.Common.{rules, ℤ, Some, [], ◌∷◌, FitsSigned, w64, ap, sym, ◌∙◌}
use Rattle.std.proofs.lemmas.Int.{ints, to_z-of_z}
use Rattle.and_model.specs.Arithmetic.{operated}
use Rattle.and_arith.proofs.Numbers.{as_read}
use Rattle.and_arith.proofs.glancing.told_by_two.Goals as goal

pub returns-in-Some : goal.returns-in-Some
returns-in-Some c =
    let z : ℤ = c.in-Some.number in
    let fits : FitsSigned w64 z = search (rules, ints) in
    sym (as_read (λ x y. operated c.args.name.0 (Some x ∷ Some y ∷ [])) c.args.left c.args.right c.ranges.left c.ranges.right)
    ∙ sym c.of_two.ensures ∙ c.in-Some.is ∙ ap Some (sym (to_z-of_z w64 z fits))
