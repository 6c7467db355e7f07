-- How many keys a choicepoint tree may have (this project's own).
use Rattle.std.specs.Prelude.{ℕ, ◌+◌, ◌-◌, ◌*◌, ◌^◌, ◌≡◌, ◌≤◌, ◌<◌, List, length, flat_map, sum_by, All}
use Rattle.and_histories.specs.PlainTree.{Key, State, Cell, Content, free, opened, taking, keys_in, last_serial}

-- A team forks only as long as it then has no more keys in hand.
abbrev pub most_in_hand : ℕ
most_in_hand = 2 ^ 40

-- the keys in hand above that
abbrev pub above_most : List Key → ℕ
above_most keys = length keys - most_in_hand

-- how many cells are open
abbrev pub open_cells : List Cell → ℕ
open_cells cells = length (flat_map keys_in cells)

-- A cell is taken by one of the teams, and has no serial above the last.
abbrev pub IsTakenBy : (teams : ℕ) → Content → Type 0
IsTakenBy teams free = Unit {0}
IsTakenBy teams (opened key) = Unit {0}
IsTakenBy teams (taking team) = team < teams

pub record IsCellOf (teams : ℕ) (c : Cell) : Type 0 where
  pub serial : c.serial ≤ last_serial
  pub taken : IsTakenBy teams c.content

-- A hand grows above the most by claims alone, and what is claimed was published.
-- So the serials bound how many keys there are, and 64 bits hold their number.
pub record IsFew (teams : ℕ) (s : State) : Type 0 where
  pub teams_are : length s.hands ≡ teams
  pub some_team : 0 < teams
  pub at_most : teams ≤ 16
  pub cells_are : length s.cells ≡ 8 * teams
  pub cells : All (IsCellOf teams) s.cells
  pub bounded : sum_by above_most s.hands + open_cells s.cells ≤ sum_by (λ (c : Cell). c.serial) s.cells
