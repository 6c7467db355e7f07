-- A limit exhausts a text where no larger one lists more.
use Rattle.std.proofs.Common.{ℕ, ◌≤◌, List, subst, arith}
use Rattle.and_model.specs.Programs.{Program}
use Rattle.and_model.specs.Listing.{Entry, Listing, Exhausted}
use Rattle.and_laws.proofs.Listings.{one_listing}

-- one listing from a limit on
pub settled : (P : Program) (limit : ℕ) (ls : List Entry) → ((more : ℕ) → limit ≤ more → Listing P more ls) → Exhausted P limit
settled P limit ls all more above ks = (
  λ l. subst (λ k. Listing P limit k) (one_listing P more ls ks (all more above) l) (all limit (omega arith)),
  λ l. subst (λ k. Listing P more k) (one_listing P limit ls ks (all limit (omega arith)) l) (all more above),
)
