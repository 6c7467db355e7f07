-- Terms and substitutions, tried on small terms.
use Rattle.std.proofs.Common.{zero}
use Rattle.std.specs.Prelude.{suc, List, [], ◌∷◌}
use Rattle.and_model.specs.Programs.{own_name}
use Rattle.and_model.specs.Terms.{Term, variable, compound, none, Substitution}
use Rattle.and_model.specs.Solutions.{Equation}
use Rattle.and_examples.specs.Texts.{own, unary}

-- each variable becomes f of itself
abbrev pub wrapped : Substitution
wrapped q k = unary (own_name 0) (variable q k)

abbrev pub f_of_atom : Term
f_of_atom = unary (own_name 0) (compound (own_name 1) none)

-- X = Y
abbrev pub alike : List Equation
alike = (own 0, own 1) ∷ []

-- X becomes Y.
abbrev pub to_second : Substitution
to_second [] zero = own 1
to_second [] (suc k) = own (suc k)
to_second (i ∷ q) k = variable (i ∷ q) k

-- X and Y become Z, and Z becomes Y: the same with Y and Z exchanged in what is put in.
abbrev pub to_third : Substitution
to_third [] zero = own 2
to_third [] (suc zero) = own 2
to_third [] (suc (suc zero)) = own 1
to_third [] (suc (suc (suc k))) = own (suc (suc (suc k)))
to_third (i ∷ q) k = variable (i ∷ q) k

abbrev pub three_values : Substitution → List Term
three_values s = s [] 0 ∷ s [] 1 ∷ s [] 2 ∷ []
