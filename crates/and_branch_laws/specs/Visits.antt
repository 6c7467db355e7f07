-- The clauses of a tree in preorder, as they are found from its reductions.
use Rattle.std.specs.Prelude.{ℕ, suc, ◌<◌, ◌≤◌, ◌≡◌, ◌≢◌, List, [], ◌∷◌, length, get_or, Contains}
use Rattle.and_model.specs.Terms.{Term}
use Rattle.and_model.specs.Programs.{Program, Item, call, fail, clause_at}
use Rattle.and_model.specs.Reductions.{Reduction}

-- A body that is gone through, from this item on: that of the clause at a place.
pub record Visit : Type 0 where
  pub node : ℕ
  pub clause : ℕ
  pub item : ℕ

-- the item that is visited
abbrev pub item_visited : Program → Visit → Item
item_visited P v = get_or (clause_at P v.clause).body v.item fail

-- the same body from the next item on
abbrev pub onward : Visit → Visit
onward v = record { node = v.node; clause = v.clause; item = suc v.item }

-- the whole body of the clause by which a call was reduced
abbrev pub into : Reduction → Visit
into r = record { node = r.node; clause = r.clause; item = 0 }

-- the query's body
abbrev pub at_query : Visit
at_query = record { node = 0; clause = 0; item = 0 }

-- the reduction takes the item that is visited
abbrev pub TakesItem : Reduction → Visit → Type 0
TakesItem r v = (r.parent ≡ v.node) × (r.item ≡ v.item)

-- Decides P rs visits cs: where these bodies are gone through, one after another, and that of each reduced call
-- before what comes behind the call, the clauses up to the first call that no reduction takes are these.
pub data Decides (P : Program) (rs : List Reduction) : List Visit → List ℕ → Type 0 where
  ended : Decides P rs [] []
  past : (v : Visit) (vs : List Visit) (cs : List ℕ) → length (clause_at P v.clause).body ≤ v.item → Decides P rs vs cs
      → Decides P rs (v ∷ vs) cs
  other : (v : Visit) (vs : List Visit) (cs : List ℕ) → v.item < length (clause_at P v.clause).body
      → ((g : Term) → item_visited P v ≢ call g)
      → Decides P rs (onward v ∷ vs) cs → Decides P rs (v ∷ vs) cs
  taken : (v : Visit) (vs : List Visit) (cs : List ℕ) (g : Term) (r : Reduction) → item_visited P v ≡ call g
      → Contains rs r → TakesItem r v
      → Decides P rs (into r ∷ onward v ∷ vs) cs → Decides P rs (v ∷ vs) (r.clause ∷ cs)
  not_taken : (v : Visit) (vs : List Visit) (g : Term) → item_visited P v ≡ call g
      → ((r : Reduction) → Contains rs r → TakesItem r v → ⊥)
      → Decides P rs (v ∷ vs) []
