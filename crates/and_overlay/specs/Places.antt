-- Places of a row, each once, with room for those of a row of so many words (a set of small numbers without order:
-- Briggs and Torczon, 1993).
use Rattle.std.specs.Prelude.{ℕ, ◌≡◌, ◌<◌, ◌≤◌, ◌^◌, List, length, slice_index, All}
use Rattle.and_model.specs.Store.{AreDistinct}

pub record Places : Type 0 where
  pub listed : List ℕ
  pub room : ℕ

-- What a list of places keeps: no place stands twice in it, the slot of each says where it stands, and there is room
-- for all places of the row.
pub record AreKept (places slots : List ℕ) (capacity : ℕ) : Type 0 where
  pub apart : AreDistinct places
  pub low : All (λ place. place < length slots) places
  pub found : (i : ℕ) → i < length places → slice_index slots (slice_index places i) ≡ i
  pub room : length slots ≤ capacity
  pub few : length slots < 2 ^ 32
