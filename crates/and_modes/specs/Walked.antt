-- Nodes that are still to be looked at, and the variables of their terms.
use Rattle.std.specs.Prelude.{ℕ, suc, ◌+◌, ◌<◌, List, [], ◌∷◌, ◌++◌, map}
use Rattle.and_model.specs.Terms.{Path, Term, Terms, variable, number, compound, none, more, variables_of}
use Rattle.and_model.specs.declared.numbers.NodeNo.{NodeNo}
use Rattle.and_program.specs.Skeletons.{Shape, node_term}

-- a variable of a clause itself
abbrev pub unframed : ℕ → Path × ℕ
unframed k = ([], k)

abbrev pub numbers_of : List NodeNo → List ℕ
numbers_of ns = map (λ n. n.0) ns

-- the variables of the nodes' terms
abbrev pub variables_at : List Shape → List ℕ → List (Path × ℕ)
variables_at ss [] = []
variables_at ss (n ∷ ns) = variables_of (node_term ss n) ++ variables_at ss ns

abbrev pub AllBelow : ℕ → List ℕ → Type 0
AllBelow m [] = Unit {0}
AllBelow m (n ∷ ns) = (n < m) × AllBelow m ns

abbrev mutual
  -- how many parts a term has
  pub size : Term → ℕ
  size (variable q k) = 1
  size (number z) = 1
  size (compound c ts) = suc (sizes ts)

  pub sizes : Terms → ℕ
  sizes none = 0
  sizes (more t ts) = size t + sizes ts

-- so many parts the nodes' terms have
abbrev pub parts_at : List Shape → List ℕ → ℕ
parts_at ss [] = 0
parts_at ss (n ∷ ns) = size (node_term ss n) + parts_at ss ns
