-- A fork within a fork, tried on p(1). p(2). q(3). q(4). ?- p(X), q(Y).
use Rattle.std.specs.Prelude.{ℕ, List, [], ◌∷◌}
use Rattle.and_model.specs.Reached.{Fork}

abbrev pub fork : (key candidates : List ℕ) → Fork
fork key candidates = record { key = key; decided = key; candidates = candidates }

-- First that of p(X), and then under each of its clauses that of q(Y). Nothing is decided between a split and the
-- next fork.
abbrev pub three_forks : List Fork
three_forks = fork [] (1 ∷ 2 ∷ []) ∷ fork (1 ∷ []) (3 ∷ 4 ∷ []) ∷ fork (2 ∷ []) (3 ∷ 4 ∷ []) ∷ []
