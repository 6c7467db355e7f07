-- What a shared tree was opened with, and what the seats of its table see (this project's own).
use Rattle.std.specs.Prelude.{ℕ, zero, suc, ◌≡◌, cond, List, [], ◌∷◌, ◌++◌, length, leb}
use Rattle.and_histories.specs.PlainTree.{Key}
use Rattle.and_histories.specs.Histories.{HistoryEntry}

-- the number of teams, and the limit under which branches stand for their keys
pub record About : Type 0 where
  pub teams : ℕ
  pub limit : ℕ

-- What a team is in the middle of: nothing, or it has the slot of a cell. Either it found its own cell free, under
-- this serial, and puts a branch there; or it claimed what was open under this serial, and takes it out.
pub data Work : Type 0 where
  at_rest : Work
  opening_cell : (cell serial : ℕ) → Work
  clearing_cell : (cell serial : ℕ) → Work

-- the pass of a team: what it has seen, the keys that it has in hand, and its work
pub record Member : Type 0 where
  pub team : ℕ
  pub seen : List HistoryEntry
  pub hand : List Key
  pub work : Work

-- The view of a seat. The first of its members steps with it, the others were put to it. A seat without members
-- passes on what was seen.
pub record Sight : Type 0 where
  pub about : About
  pub members : List Member
  pub told : List HistoryEntry

abbrev pub newcomer : (team : ℕ) → Member
newcomer team = record { team = team; seen = []; hand = []; work = at_rest }

-- the passes of so many teams, from this one on
abbrev pub newcomers_from : (team count : ℕ) → List Member
newcomers_from team zero = []
newcomers_from team (suc count) = newcomer team ∷ newcomers_from (suc team) count

-- at the opening one seat has the passes of all teams
abbrev pub opener : About → Sight
opener a = record { about = a; members = newcomers_from 0 a.teams; told = [] }

abbrev pub spent : Sight
spent = record { about = record { teams = 0; limit = 0 }; members = []; told = [] }

-- the first of them, and a newcomer where there is none
abbrev pub first_of : List Member → Member
first_of [] = newcomer 0
first_of (m ∷ members) = m

abbrev pub mine_of : Sight → Member
mine_of v = first_of v.members

-- no other pass was put to it
abbrev pub IsAlone : Sight → Type 0
IsAlone v = (v.members ≡ mine_of v ∷ []) × (v.told ≡ [])

-- its pass became m
abbrev pub with_mine : Sight → Member → Sight
with_mine v m = record v { members = m ∷ [] }

-- ---- seats that are cut in two, and put together

-- The first pass gets a seat of its own.
abbrev pub without_first : List Member → List Member
without_first [] = []
without_first (m ∷ members) = members

abbrev pub only_first : List Member → List Member
only_first [] = []
only_first (m ∷ members) = m ∷ []

abbrev pub dealing_left : Sight → Sight
dealing_left v = record v { members = without_first v.members }

abbrev pub dealing_right : Sight → Sight
dealing_right v = record v { members = only_first v.members }

-- a seat that takes in the passes of another
abbrev pub taken_in : Sight → Sight → Sight
taken_in v w = record v { members = v.members ++ w.members }

-- a seat that passes on what the first pass of the other has seen
abbrev pub note_of : Sight → Sight
note_of v = record v { members = []; told = (mine_of v).seen }

abbrev pub unchanged : Sight → Sight
unchanged v = v

abbrev pub hears : Sight → Sight → Sight
hears v w = record v { told = w.told }

-- the longer of two histories; the second where they are as long
abbrev pub longer_of : List HistoryEntry → List HistoryEntry → List HistoryEntry
longer_of one other = cond (leb (length one) (length other)) other one
