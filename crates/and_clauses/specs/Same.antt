-- Whether two clauses are the same.
use Rattle.std.specs.Prelude.{ℕ, Bool, true, false, ◌&&◌, nat_eq, List, [], ◌∷◌}
use Rattle.std.specs.Str.{bytes_eq}
use Rattle.std.specs.Ordering.{int_eq}
use Rattle.and_model.specs.Terms.{Term, Terms, variable, number, compound, none, more}
use Rattle.and_model.specs.Arithmetic.{Relation, less, greater, at_most, at_least, same, differs}
use Rattle.and_model.specs.Programs.{Arithmetic, is, compare, Item, call, equal, arithmetic, fail, Clause}
use Rattle.and_model.specs.Lines.{same_path}

abbrev mutual
  pub same_term : Term → Term → Bool
  same_term (variable p k) (variable q l) = same_path p q && nat_eq k l
  same_term (variable p k) (number y) = false
  same_term (variable p k) (compound d us) = false
  same_term (number z) (variable q l) = false
  same_term (number z) (number y) = int_eq z y
  same_term (number z) (compound d us) = false
  same_term (compound c ts) (variable q l) = false
  same_term (compound c ts) (number y) = false
  same_term (compound c ts) (compound d us) = nat_eq c d && same_terms ts us

  pub same_terms : Terms → Terms → Bool
  same_terms none none = true
  same_terms none (more u us) = false
  same_terms (more t ts) none = false
  same_terms (more t ts) (more u us) = same_term t u && same_terms ts us

-- a relation by a number
abbrev pub code_of : Relation → ℕ
code_of less = 0
code_of greater = 1
code_of at_most = 2
code_of at_least = 3
code_of same = 4
code_of differs = 5

abbrev pub same_goal : Arithmetic → Arithmetic → Bool
same_goal (is a b) (is c d) = same_term a c && same_term b d
same_goal (is a b) (compare n c d) = false
same_goal (compare m a b) (is c d) = false
same_goal (compare m a b) (compare n c d) = nat_eq (code_of m) (code_of n) && (same_term a c && same_term b d)

abbrev pub same_item : Item → Item → Bool
same_item (call g) (call h) = same_term g h
same_item (call g) (equal c d) = false
same_item (call g) (arithmetic k) = false
same_item (call g) fail = false
same_item (equal a b) (call h) = false
same_item (equal a b) (equal c d) = same_term a c && same_term b d
same_item (equal a b) (arithmetic k) = false
same_item (equal a b) fail = false
same_item (arithmetic j) (call h) = false
same_item (arithmetic j) (equal c d) = false
same_item (arithmetic j) (arithmetic k) = same_goal j k
same_item (arithmetic j) fail = false
same_item fail (call h) = false
same_item fail (equal c d) = false
same_item fail (arithmetic k) = false
same_item fail fail = true

-- so it is one by one
abbrev pub same_list : {X : Type 0} → (X → X → Bool) → List X → List X → Bool
same_list e [] [] = true
same_list e [] (y ∷ ys) = false
same_list e (x ∷ xs) [] = false
same_list e (x ∷ xs) (y ∷ ys) = e x y && same_list e xs ys

abbrev pub same_clause : Clause → Clause → Bool
same_clause c d =
    same_term c.head d.head && (same_list same_item c.body d.body
    && (nat_eq c.variables d.variables && (same_list bytes_eq c.written d.written && nat_eq c.line d.line)))

abbrev pub same_clauses : List Clause → List Clause → Bool
same_clauses cs ds = same_list same_clause cs ds
