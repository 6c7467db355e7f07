-- What arithmetic asks of the solver.
use Rattle.std.specs.Prelude.{List, [], ◌∷◌}
use Rattle.and_model.specs.declared.reference.Ref.{Ref}
use Rattle.and_unify.specs.declared.pairs.Pair.{Pair}

-- two references as the one pair of a list
abbrev pub the_pair : (left right : Ref) → List Pair
the_pair left right = record { left = left; right = right } ∷ []
