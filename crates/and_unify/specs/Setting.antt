-- The cells that a call set.
use Rattle.std.specs.Prelude.{ℕ, ◌<◌, ◌≡◌, ◌≢◌, List, ◌++◌, length, All, Contains}
use Rattle.and_model.specs.Store.{AreDistinct}
use Rattle.and_model.specs.declared.reference.Ref.{Ref}
use Rattle.and_model.specs.declared.reference.Ref.TheVariants.{Free}
use Rattle.and_cells.specs.Seen.{Seen, Knows, word_at}

-- the cell is of the row, was not known to be set, and is now
pub record WasSet (first now : Seen) (cell : ℕ) : Type 0 where
  pub below : cell < first.words
  pub not_known : (r : Ref) → Knows first cell r → ⊥
  pub value : Ref
  pub known : Knows now cell value

-- A list gained cells that were set here, each once.
pub record Lists (first now : Seen) (began bound : List ℕ) : Type 0 where
  pub gained : List ℕ
  pub listed : bound ≡ began ++ gained
  pub once : AreDistinct gained
  pub were_set : All (WasSet first now) gained

-- The list has the cells that were free and are set now, each once. No other word changed.
pub record HaveBeenSet (old new : List Ref) (cells : List ℕ) : Type 0 where
  pub once : AreDistinct cells
  pub in_row : All (λ (cell : ℕ). cell < length old) cells
  pub were_free : All (λ (cell : ℕ). word_at old cell ≡ Free) cells
  pub are_set : All (λ (cell : ℕ). word_at new cell ≢ Free) cells
  pub words : length new ≡ length old
  pub others : (place : ℕ) → (Contains cells place → ⊥) → word_at new place ≡ word_at old place
