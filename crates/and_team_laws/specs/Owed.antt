-- What a search owes whose trees are walked in any order, by anyone (this project's own).
use Rattle.std.specs.Prelude.{ℕ, ◌+◌, ◌≡◌, Bool, ◌||◌, List, ◌++◌, sum_by}
use Rattle.and_model.specs.Programs.{Program}
use Rattle.and_model.specs.Trees.{QueryTree}
use Rattle.and_model.specs.Listing.{Entry}
use Rattle.and_walk_laws.specs.Walks.{Walks, WalksAll}

-- The same items, each as often: whatever is summed over the one list is the same over the other.
abbrev pub SameItems : {A : Type 0} → List A → List A → Type 0
SameItems {A} xs ys = (f : A → ℕ) → sum_by f xs ≡ sum_by f ys

-- OwesAnyhow t trees entries forks failed is_cut: whatever the walks of these trees find, there is a walk of t that
-- finds this and what was found so far, in some order.
abbrev pub OwesAnyhow : (P : Program) (limit : ℕ) → QueryTree P → List (QueryTree P) → List Entry
    → ℕ → ℕ → Bool → Type 0
OwesAnyhow P limit t trees entries forks failed is_cut =
    (others : List Entry) (more_forks more_failed : ℕ) (is_more_cut : Bool)
    → WalksAll P limit trees others more_forks more_failed is_more_cut
    → (all : List Entry) × Walks P limit t all (forks + more_forks) (failed + more_failed) (is_cut || is_more_cut)
    × SameItems all (entries ++ others)
