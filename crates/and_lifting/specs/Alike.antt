-- When an unfolding of a program with disjunctions and a tree of the lifted program say the same.
use Rattle.std.specs.Prelude.{◌≡◌, ◌↔◌, Option, Some, None}
use Rattle.and_model.specs.Trees.{QueryTree, weight, IsWhole}
use Rattle.and_model.specs.Listing.{Outcome, Ends}
use Rattle.and_source.specs.Source.{SourceProgram}
use Rattle.and_source.specs.Unfolding.{Unfolding, IsSourceWhole}
use Rattle.and_source.specs.SourceListing.{SourceEnds}
use Rattle.and_source.specs.Lifted.{lift}

-- Neither is there; or both are, with the same weight, both whole or neither, and with the same outcomes.
pub data AreAlike (P : SourceProgram) : Option Unfolding → Option (QueryTree (lift P)) → Type 0 where
  neither : AreAlike P None None
  both : (u : Unfolding) (t : QueryTree (lift P)) → u.weight ≡ weight t → IsSourceWhole u ↔ IsWhole t
      → ((o : Outcome) → SourceEnds P u o ↔ Ends t o) → AreAlike P (Some u) (Some t)
