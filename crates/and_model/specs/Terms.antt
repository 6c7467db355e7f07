-- Terms and substitutions (Lloyd, Foundations of Logic Programming, section 4).
use Rattle.std.specs.Prelude.{ℕ, suc, ℤ, ◌&&◌, Bool, true, false, List, [], ◌∷◌, ◌++◌}

-- Each clause that is used in a proof has variables of its own. They live in a frame, which is named by the path of
-- the clause in the proof: the query has the empty path, and the clause that takes call number i of a body has that
-- body's path and then i.
abbrev pub Path : Type 0
Path = List ℕ

mutual
  -- A term is a variable (its frame's path, and its number in the clause), a number, or a name with arguments.
  pub data Term : Type 0 where
    variable : Path → ℕ → Term
    number : ℤ → Term
    compound : ℕ → Terms → Term

  pub data Terms : Type 0 where
    none : Terms
    more : Term → Terms → Terms

-- how many terms there are
abbrev pub width : Terms → ℕ
width none = 0
width (more t ts) = suc (width ts)

abbrev mutual
  -- a term is ground where it has no variable
  pub is_ground : Term → Bool
  is_ground (variable q k) = false
  is_ground (number z) = true
  is_ground (compound c ts) = are_ground ts

  pub are_ground : Terms → Bool
  are_ground none = true
  are_ground (more t ts) = is_ground t && are_ground ts

abbrev mutual
  -- the occurrences of variables, from left to right
  pub variables_of : Term → List (Path × ℕ)
  variables_of (variable q k) = (q, k) ∷ []
  variables_of (number z) = []
  variables_of (compound c ts) = variables_in ts

  pub variables_in : Terms → List (Path × ℕ)
  variables_in none = []
  variables_in (more t ts) = variables_of t ++ variables_in ts

-- A substitution gives a term for each variable. Two are the same where they give the same terms.
abbrev pub Substitution : Type 0
Substitution = Path → ℕ → Term

abbrev mutual
  -- the term in which each variable was replaced, once
  pub apply : Substitution → Term → Term
  apply s (variable q k) = s q k
  apply s (number z) = number z
  apply s (compound c ts) = compound c (apply_all s ts)

  pub apply_all : Substitution → Terms → Terms
  apply_all s none = none
  apply_all s (more t ts) = more (apply s t) (apply_all s ts)

-- A term of a clause, in the frame of that path. (In a clause itself, variables have the empty path.)
abbrev pub framed : Path → Term → Term
framed q t = apply (λ r k. variable q k) t
