-- Classes of references that were joined.
use Rattle.std.specs.Prelude.{List, ◌∷◌, [], ◌++◌, ◌≡◌, ◌≢◌, ◌⊎◌, All, Contains}
use Rattle.and_model.specs.declared.reference.Ref.{Ref}
use Rattle.and_cells.specs.Joined.{Joined}

-- the links that were made
abbrev pub Linked : List (Ref × Ref) → Ref → Ref → Type 0
Linked links r q = Contains links (r, q)

-- the two are of one class
abbrev pub InOneClass : List (Ref × Ref) → Ref → Ref → Type 0
InOneClass links r q = Joined (Linked links) r q

-- no link leads on from it
abbrev pub IsRoot : List (Ref × Ref) → Ref → Type 0
IsRoot links r = All (λ (l : Ref × Ref). l.0 ≢ r) links

-- No link leads to where it begins, or to where an older one begins. So whoever follows links comes to newer ones.
abbrev pub Climbs : List (Ref × Ref) → Type 0
Climbs [] = Unit {0}
Climbs (l ∷ ls) = (l.1 ≢ l.0) × All (λ (m : Ref × Ref). m.1 ≢ l.0) ls × Climbs ls

-- One link is new. It is between the classes of the two.
pub record Joins (left right : Ref) (old new : List (Ref × Ref)) : Type 0 where
  pub one : Ref
  pub other : Ref
  pub adds : new ≡ old ++ (one, other) ∷ []
  pub between : (InOneClass old one left × InOneClass old other right)
      ⊎ (InOneClass old one right × InOneClass old other left)
