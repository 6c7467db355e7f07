-- Goals that hang on a cell of a store, tried on direct calls.
use Rattle.std.specs.Prelude.{true, List, [], ◌∷◌, Some}
use Rattle.and_model.specs.declared.reference.Ref.{Ref}
use Rattle.and_model.specs.declared.reference.Ref.TheVariants.{Free, Node}
use Rattle.and_model.specs.Store.{Setting, JournalEntry, sets, hangs, HungGoal, Took, occupied, closed, Pass}

-- One free cell. The first pass hangs a goal on it. The second finds a waiter there, sets the cell to a node and
-- takes the waiter out, and then finds the place closed.
abbrev pub first : List Ref
first = Free ∷ []

abbrev pub hung : HungGoal
hung = record { waiter = 0; cell = 0; goal = record { node = 0; item = 0; clause = record { 0 = 0 }; base = 0 } }

abbrev pub bound : Setting
bound = record { place = 0; value = Node (record { 0 = 7 }) 0 }

abbrev pub journal : List JournalEntry
journal = record { pass = 0; made = hangs hung } ∷ record { pass = 1; made = sets bound } ∷ []

abbrev pub hanger : Pass
hanger = record {
  number = 0;
  seen = record { pass = 0; made = hangs hung } ∷ [];
  known = [];
  mine = [];
  frames = [];
  asked = [];
  fails = [];
  missed = [];
  hung = hung ∷ [];
  took = [];
  found = [];
}

-- the second pass, with what it took
abbrev pub binder : List Took → Pass
binder took = record {
  number = 1;
  seen = journal;
  known = record { setting = bound; is_own = true } ∷ [];
  mine = bound ∷ [];
  frames = [];
  asked = [];
  fails = [];
  missed = [];
  hung = [];
  took = took;
  found = record { cell = 0; place = occupied 0 } ∷ record { cell = 0; place = closed } ∷ [];
}

abbrev pub taken : Took
taken = record { cell = 0; waiter = Some 0 }

abbrev pub row : List Ref
row = bound.value ∷ []
