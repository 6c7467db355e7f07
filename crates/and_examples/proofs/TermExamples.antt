-- Terms and substitutions, tried on small terms.
use Rattle.std.proofs.Common.{ℕ, zero, suc, ◌≡◌, ◌<◌, true, false, [], ◌∷◌, refl, sym, None, arith}
use Rattle.and_model.specs.Programs.{own_name}
use Rattle.and_model.specs.Terms.{Path, variable, is_ground, Substitution, apply}
use Rattle.and_model.specs.Solutions.{Solves, MostGeneral}
use Rattle.and_model.specs.Arithmetic.{value, of_one}
use Rattle.and_model.specs.Stands.{AreVariants}
use Rattle.and_examples.specs.Texts.{own, unary}
use Rattle.and_examples.specs.TermExamples.{wrapped, f_of_atom, alike, to_second, to_third, three_values}

pub once : apply wrapped (unary (own_name 0) (own 0)) ≡ unary (own_name 0) (unary (own_name 0) (own 0))
once = refl

pub ground : (is_ground f_of_atom ≡ true) × (value f_of_atom ≡ None) × (is_ground (unary (own_name 0) (own 0)) ≡ false)
unfolding of_one
ground = (refl, refl, refl)

pub general : MostGeneral to_second alike
general = ((refl, tt), through)
  where
    through : (t : Substitution) → Solves t alike → (q : Path) (k : ℕ) → t q k ≡ apply t (to_second q k)
    through t h [] zero = h.0
    through t h [] (suc k) = refl
    through t h (i ∷ q) k = refl

-- It solves them, too, and its values are variants of the other's.
pub renamed : Solves to_third alike × AreVariants (three_values to_second) (three_values to_third)
renamed = ((refl, tt), ((to_third, refl), (to_third, refl)))

apart : (j k : ℕ) → j < k → variable [] j ≡ variable [] k → ⊥
apart j k less same = let e : j ≡ k = cc in omega arith

-- But it is not itself after itself.
pub renamed_is_not : MostGeneral to_third alike → ⊥
renamed_is_not most = let e : own 2 ≡ own 1 = most.1 to_third (refl, tt) [] 0 in apart 1 2 (omega arith) (sym e)
