use Rattle.std.proofs.Common.{rules, ◌≡◌, [], ◌∷◌, Some, reverse, sym, ap, ◌∙◌, ℤ, FitsSigned, w64, to_z, of_z}
use Rattle.std.proofs.lemmas.List.{reverse-append}
use Rattle.std.proofs.lemmas.Int.{ints, to_z-of_z}
use Rattle.and_arith.proofs.values.WorkList.outcome.Goals as goal

pub returns-in-Some-Some-clause-number : goal.returns-in-Some-Some-clause-number
returns-in-Some-Some-clause-number c = λ z e.
    let n : ℤ = c.in-Some-Some.number in
    let fits : FitsSigned w64 n = search (rules, ints) in
    let same : to_z w64 (of_z w64 n) ≡ z = cc in (
      reverse c.pop.new.self.items,
      ap reverse c.in-Some-Some.ensures.items ∙ reverse-append c.pop.new.self.items (c.in-Some-Some.field-0 ∷ [])
          ∙ ap (λ v. v ∷ reverse c.pop.new.self.items) (c.in-Some-Some.field-0-is ∙ ap Some (sym (to_z-of_z w64 n fits) ∙ same)),
    )
