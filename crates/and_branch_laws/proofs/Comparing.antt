-- What is known of the sides of a comparison says of it.
use Rattle.std.proofs.Common.{ℕ, ℤ, ◌≡◌, false, List, Option, Some, None, refl, ap, ◌∙◌}
use Rattle.and_model.specs.Terms.{Term, none, more, is_ground, are_ground}
use Rattle.and_model.specs.Arithmetic.{Relation, both_related, value, holds}
use Rattle.and_model.specs.declared.reference.Ref.{Ref}
use Rattle.and_laws.proofs.Substitutions.{and_left, and_right}
use Rattle.and_cells.specs.Ranges.{NamedProgram}
use Rattle.and_branch_laws.specs.Sides.{IsOpen, AreOpen, ComesTo, AreCompared}

pub holds_by : (o : Relation) (u w : Term) (x y : Option ℤ) → value u ≡ x → value w ≡ y → holds o u w ≡ both_related o x y
unfolding holds
holds_by o u w x y one two = ap (λ (a : Option ℤ). both_related o a (value w)) one ∙ ap (λ (b : Option ℤ). both_related o x b) two

pub none_left : (o : Relation) (y : Option ℤ) → both_related o None y ≡ false
none_left o None = refl
none_left o (Some b) = refl

module _ (P : NamedProgram) (row : List Ref) (base : ℕ) where
  -- Sides that come to values, or are ground and have none, are compared by these.
  pub values_compared : (o : Relation) (a b : Term) (x y : Option ℤ) → ComesTo P row base a x → ComesTo P row base b y
      → AreCompared P row base o a b (both_related o x y)
  values_compared o a b x y (u, read, ground, is) (w, read_too, ground_too, is_too) = record {
    left = u;
    right = w;
    left_read = read;
    right_read = read_too;
    left_ground = ground;
    right_ground = ground_too;
    outcome_is = holds_by o u w x y is is_too;
  }

  -- A term that does not read as a ground one makes any list open in which it is first,
  pub first_open : (t : Term) → IsOpen P row base t → AreOpen P row base (more t none)
  first_open t open_here none read ground = elim read [ ]
  first_open t open_here (more u us) read ground = open_here u read.0 (and_left (is_ground u) (are_ground us) ground)

  -- or one of two.
  pub left_open : (a b : Term) → IsOpen P row base a → AreOpen P row base (more a (more b none))
  left_open a b open_here none read ground = elim read [ ]
  left_open a b open_here (more u us) read ground = open_here u read.0 (and_left (is_ground u) (are_ground us) ground)

  pub right_open : (a b : Term) → IsOpen P row base b → AreOpen P row base (more a (more b none))
  right_open a b open_here none read ground = elim read [ ]
  right_open a b open_here (more u none) read ground = elim read.1 [ ]
  right_open a b open_here (more u (more w us)) read ground =
      open_here w read.1.0 (and_left (is_ground w) (are_ground us) (and_right (is_ground u) (are_ground (more w us)) ground))
