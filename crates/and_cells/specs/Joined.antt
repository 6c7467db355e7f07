-- References that are the same term wherever those are that were joined.
use Rattle.std.specs.Prelude.{ℕ, List, [], ◌∷◌, Option}
use Rattle.std.specs.Option.{option_map}
use Rattle.and_model.specs.Terms.{Term, Substitution, apply}
use Rattle.and_model.specs.declared.reference.Ref.{Ref}
use Rattle.and_cells.specs.Ranges.{NamedProgram}
use Rattle.and_cells.specs.Meaning.{Words, shallow_term}
use Rattle.and_cells.specs.Parts.{IsStructure, parts_of}

-- the least equivalence that has these links
pub data Joined (Link : Ref → Ref → Type 0) : Ref → Ref → Type 0 where
  link : (r q : Ref) → Link r q → Joined Link r q
  same : (r : Ref) → Joined Link r r
  back : (r q : Ref) → Joined Link r q → Joined Link q r
  then : (r q p : Ref) → Joined Link r q → Joined Link q p → Joined Link r p

-- each reference of a list is joined with that of the other list
pub data AllJoined (Link : Ref → Ref → Type 0) : List Ref → List Ref → Type 0 where
  none : AllJoined Link [] []
  more : (r q : Ref) (rs qs : List Ref) → Joined Link r q → AllJoined Link rs qs → AllJoined Link (r ∷ rs) (q ∷ qs)

-- two structures of one name, whose parts are joined
pub record AreMatched (P : NamedProgram) (Link : Ref → Ref → Type 0) (r q : Ref) : Type 0 where
  pub name : ℕ
  pub count : ℕ
  pub left : IsStructure P r name count
  pub right : IsStructure P q name count
  pub joined : AllJoined Link (parts_of P r) (parts_of P q)

-- the term of a reference where a substitution gives the terms of cells
abbrev pub value : NamedProgram → Words → Substitution → Ref → Option Term
value P w t r = option_map (apply t) (shallow_term P w r)
