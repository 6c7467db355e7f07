-- What a store was opened with, and what its passes see of it (this project's own).
use Rattle.std.specs.Prelude.{ℕ, ◌+◌, ◌-◌, ◌≤◌, ◌<◌, List, [], ◌∷◌, ◌++◌}
use Rattle.and_model.specs.declared.reference.Ref.{Ref}
use Rattle.and_cells.specs.Ranges.{NamedProgram}
use Rattle.and_store_laws.specs.AtWork.{Opening, Seat}
use Rattle.and_store_laws.specs.Steps.{blank, seat}

-- the first row, how many words and seats there are, and how many goals each pass may hang
pub record About : Type 0 where
  pub first : List Ref
  pub words : ℕ
  pub seats : ℕ
  pub waiters : ℕ

-- each seat is dealt one share
abbrev pub opening_of : NamedProgram → About → Opening
opening_of P a = record {
  program = P;
  first = a.first;
  words = a.words;
  waiters = a.waiters;
  shares = a.seats;
  seats = a.seats;
}

pub record IsModest (a : About) : Type 0 where
  pub words : a.words ≤ 4194304
  pub seats : a.seats ≤ 64
  pub some_seat : 0 < a.seats
  pub waiters : a.waiters ≤ 4096

-- The view of a seat of the table. While its first pass hangs a goal, `noted` are the words of it that stand in the
-- table already.
pub record Sight : Type 0 where
  pub about : About
  pub seat : Seat
  pub noted : List ℕ

abbrev pub seat_of : Sight → Seat
seat_of v = v.seat

abbrev pub opener : About → Sight
opener a = record { about = a; seat = seat a.seats 1 (blank 0 ∷ []); noted = [] }

-- the seat that makes passes has made one more
abbrev pub one_more : Sight → Sight
one_more v = record v { seat = seat (v.seat.shares - 1) (v.seat.made + 1) v.seat.members }

abbrev pub newcomer : Sight → Sight
newcomer v = record { about = v.about; seat = seat 1 0 (blank v.seat.made ∷ []); noted = [] }

-- what a seat is that took in another, and what the other is then
abbrev pub taken_in : Sight → Sight → Sight
taken_in v w = record v { seat = seat (v.seat.shares + w.seat.shares) v.seat.made (v.seat.members ++ w.seat.members) }

abbrev pub nothing : About
nothing = record { first = []; words = 0; seats = 0; waiters = 0 }

abbrev pub spent : Sight
spent = record { about = nothing; seat = seat 0 0 []; noted = [] }

-- the seat of the first pass, when so many passes are made
abbrev pub dealing : About → (made : ℕ) → Sight
dealing a made = record { about = a; seat = seat (a.seats + 1 - made) made (blank 0 ∷ []); noted = [] }
