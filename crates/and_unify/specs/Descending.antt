-- What a plain descent does with pairs. It remembers nothing of what was made equal.
use Rattle.std.specs.Prelude.{ℕ, ◌≡◌, ◌≢◌, ◌⊎◌, ◌↔◌, List, IfSome, IsNone, Contains, All}
use Rattle.and_model.specs.Terms.{Substitution}
use Rattle.and_model.specs.Solutions.{Solves}
use Rattle.and_model.specs.declared.reference.Ref.{Ref}
use Rattle.and_cells.specs.Ranges.{NamedProgram}
use Rattle.and_cells.specs.Seen.{Seen, Knows, Keeps}
use Rattle.and_cells.specs.Meaning.{Words}
use Rattle.and_cells.specs.Joined.{value}
use Rattle.and_cells.specs.Known.{HasKnown, SolvesKnown}
use Rattle.and_unify.specs.declared.pairs.Pair.{Pair}
use Rattle.and_unify.specs.declared.unifying.Unified.{Unified}
use Rattle.and_unify.specs.declared.unifying.Unified.TheVariants.{PutOff}
use Rattle.and_unify.specs.declared.descending.Descended.{Descended}
use Rattle.and_unify.specs.declared.descending.Descended.TheVariants.{Over, Left}
use Rattle.and_unify.specs.Pairs.{equations_of_pairs, AreInRange, AreWritten}
use Rattle.and_unify.specs.Places.{left_sides, sides, IsPlace}
use Rattle.and_unify.specs.Following.{Follows}
use Rattle.and_unify.specs.Turns.{Steps}
use Rattle.and_unify.specs.Setting.{Lists}
use Rattle.and_unify.specs.Unifying.{Unifies}

-- What becomes of a pair where links are not written down: a step, whatever links there were.
abbrev pub StepsPlainly : NamedProgram → Pair → (old new : Seen) → (list list' : List Pair)
    → (bound bound' : List ℕ) → Type 0
StepsPlainly P p old new list list' bound bound' =
    (links : List (Ref × Ref)) → (more : List (Ref × Ref)) × Steps P p old new links more list list' bound bound'

-- both sides of each pair have one value
abbrev pub HaveOneValue : NamedProgram → Words → Substitution → List Pair → Type 0
HaveOneValue P w t pairs = All (λ (p : Pair). value P w t p.left ≡ value P w t p.right) pairs

-- Under what is known, the pairs that are left suffice: where their sides have one value, so have those of the pairs
-- that were asked for.
abbrev pub Suffice : NamedProgram → Seen → (left asked : List Pair) → Type 0
Suffice P new left asked = (w : Words) → HasKnown new w → (t : Substitution) → SolvesKnown P w new t
    → HaveOneValue P w t left → HaveOneValue P w t asked

-- What was set is on the list, and leads on from the sides.
abbrev pub SetPlaces : NamedProgram → (old new : Seen) → List Pair → List ℕ → Type 0
SetPlaces P old new asked bound = (place : ℕ) (r : Ref) → Knows new place r
    → Knows old place r ⊎ (Contains bound place × IsPlace P old (sides asked) r)

-- the sides of these pairs are places that the sides of all pairs lead to
abbrev pub LeadOnFrom : NamedProgram → Seen → (left asked : List Pair) → Type 0
LeadOnFrom P s left asked = (r : Ref) → Contains (sides left) r → IsPlace P s (sides asked) r

-- What became of the pairs that were asked for, where some are left.
pub record Descends (P : NamedProgram) (old new : Seen) (asked left : List Pair) : Type 0 where
  -- Only what follows from the pairs and what was known is set.
  pub follows : Follows P asked old new
  -- A row that is told stays so, and no other comes to be.
  pub told : IsNone old.told ↔ IsNone new.told
  -- The pairs that are left ask for the same as all pairs did, under what is known now.
  pub suffice : Suffice P new left asked
  pub still_asked : (w : Words) → HasKnown new w → (t : Substitution) → SolvesKnown P w new t
      → Solves t (equations_of_pairs P w asked) → Solves t (equations_of_pairs P w left)
  pub in_range : AreInRange P new.words left × AreWritten new left
  -- Their sides are places that the sides of all pairs lead to; where the row is told, with what was known before. So
  -- are their left sides of the left ones.
  pub leads : LeadOnFrom P new left asked
  pub told_leads : IfSome old.told (λ row. LeadOnFrom P old left asked)
  pub lefts : (r : Ref) → Contains (left_sides left) r → IsPlace P new (left_sides asked) r

-- What a plain descent came to. Some pairs are left, or it is over.
pub record ComesDown (P : NamedProgram) (old new : Seen) (asked left : List Pair) (began last : List ℕ)
    (answer : Descended) : Type 0 where
  pub keeps : Keeps old new
  pub over : (unified : Unified) → answer ≡ Over unified → Unifies P old new asked left unified × (unified ≢ PutOff)
  pub not_over : answer ≡ Left → Descends P old new asked left
  pub sets : IfSome old.told (λ row. SetPlaces P old new asked last)
  pub lists : Lists old new began last
