-- Terms as they are written, and the terms of a clause that they stand for: variables and names by their numbers
-- (this project's own).
use Rattle.std.specs.Prelude.{ℕ, suc, ◌+◌, ℤ, not, cond, ◌||◌, Bool, List, [], ◌∷◌, ◌++◌, length, codes}
use Rattle.std.specs.Str.{bytes_eq}
use Rattle.std.specs.List.{list_any, position_or_len}
use Rattle.and_model.specs.Terms
use Rattle.and_model.specs.Terms.{Term, Terms}
use Rattle.and_model.specs.Lines.{Bytes}

mutual
  -- A written term: a variable or a name as its bytes, or an integer. (What is written with an operator or as a list
  -- is a name with arguments too.)
  pub data Written : Type 0 where
    variable : Bytes → Written
    integer : ℤ → Written
    compound : Bytes → Many → Written

  pub data Many : Type 0 where
    none : Many
    more : Written → Many → Many

abbrev mutual
  -- how many variables, numbers and names occur
  pub nodes_of : Written → ℕ
  nodes_of (variable x) = 1
  nodes_of (integer z) = 1
  nodes_of (compound c ts) = suc (nodes_in ts)

  pub nodes_in : Many → ℕ
  nodes_in none = 0
  nodes_in (more t ts) = nodes_of t + nodes_in ts

abbrev pub has : Bytes → List Bytes → Bool
has x xs = list_any (bytes_eq x) xs

-- the number of the first that is x, or the length where none is
abbrev pub place : Bytes → List Bytes → ℕ
place x xs = position_or_len (bytes_eq x) xs

-- the names with one that occurs
abbrev pub including : List Bytes → Bytes → List Bytes
including names c = cond (has c names) names (names ++ c ∷ [])

abbrev mutual
  -- the names with those of a term, as they are first seen from left to right
  pub named : List Bytes → Written → List Bytes
  named names (variable x) = names
  named names (integer z) = names
  named names (compound c ts) = named_all (including names c) ts

  pub named_all : List Bytes → Many → List Bytes
  named_all names none = names
  named_all names (more t ts) = named_all (named names t) ts

-- a bare `_` is a new variable at each occurrence
abbrev pub is_new : Bytes → List Bytes → Bool
is_new x met = bytes_eq x (codes "_") || not (has x met)

abbrev mutual
  -- the variables that were met, with those of a term as they are first seen from left to right
  pub met_after : List Bytes → Written → List Bytes
  met_after met (variable x) = cond (is_new x met) (met ++ x ∷ []) met
  met_after met (integer z) = met
  met_after met (compound c ts) = met_after_all met ts

  pub met_after_all : List Bytes → Many → List Bytes
  met_after_all met none = met
  met_after_all met (more t ts) = met_after_all (met_after met t) ts

-- the number of a variable that occurs where these were met
abbrev pub variable_number : Bytes → List Bytes → ℕ
variable_number x met = cond (is_new x met) (length met) (place x met)

abbrev mutual
  -- the term that is written where these variables were met, under a table of names
  pub term_in : List Bytes → List Bytes → Written → Term
  term_in names met (variable x) = Terms.variable [] (variable_number x met)
  term_in names met (integer z) = Terms.number z
  term_in names met (compound c ts) = Terms.compound (place c names) (terms_in names met ts)

  pub terms_in : List Bytes → List Bytes → Many → Terms
  terms_in names met none = Terms.none
  terms_in names met (more t ts) = Terms.more (term_in names met t) (terms_in names (met_after met t) ts)
