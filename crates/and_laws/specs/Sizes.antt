-- How large terms are.
use Rattle.std.specs.Prelude.{ℕ, ◌+◌}
use Rattle.and_model.specs.Terms.{Term, Terms, variable, number, compound, none, more}

abbrev mutual
  -- how many variables, numbers and names occur
  pub size : Term → ℕ
  size (variable f n) = 1
  size (number z) = 1
  size (compound c ts) = 1 + sizes ts

  pub sizes : Terms → ℕ
  sizes none = 0
  sizes (more t ts) = size t + sizes ts
