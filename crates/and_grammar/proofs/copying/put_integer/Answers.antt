use Rattle.std.proofs.Common.{ℤ, to_z, of_z, w64, ◌≡◌, [], ◌∷◌, subst}
use Rattle.std.proofs.lemmas.Int.{to_z-of_z}
use Rattle.and_syntax.specs.Written.{integer}
use Rattle.and_grammar.specs.Views.{Adds}
use Rattle.and_grammar.proofs.CopyLemmas.{becomes}
use Rattle.and_grammar.proofs.copying.put_integer.Goals as goal

pub returns : goal.returns
returns c =
    let back : to_z w64 (of_z w64 c.args.value) ≡ c.args.value = to_z-of_z w64 c.args.value c.ranges.value in
    subst (λ (z : ℤ). Adds c.args.out.now c.integer.new.self (integer z ∷ [])) back (becomes c.args.out.now c.integer.new.self _ _ c.in_ok-integer.ensures.ok)
