-- What becomes of pairs that are met plainly, one after the other.
use Rattle.std.specs.Prelude.{ℕ, ◌≡◌, ◌↔◌, List, ◌∷◌, ◌++◌, Contains}
use Rattle.and_model.specs.declared.reference.Ref.{Ref}
use Rattle.and_cells.specs.Ranges.{NamedProgram}
use Rattle.and_cells.specs.Seen.{Seen, OnlyReads}
use Rattle.and_cells.specs.Parts.{parts_of}
use Rattle.and_unify.specs.declared.pairs.Pair.{Pair}
use Rattle.and_unify.specs.declared.descending.Plainly.{Plainly}
use Rattle.and_unify.specs.declared.descending.Plainly.TheVariants.{Done, Onward, Apart, Memory}
use Rattle.and_unify.specs.Meeting.{AreOfOneShape, MeetStructures, MeetApart}
use Rattle.and_unify.specs.Turns.{pairs_of}
use Rattle.and_unify.specs.Descending.{StepsPlainly}

-- the same pairs, in any order
abbrev pub AreSame : List Pair → List Pair → Type 0
AreSame ps qs = (p : Pair) → Contains ps p ↔ Contains qs p

-- Of the pairs that are to do some are left: looks alone were made, or one after the other was taken out and stepped.
-- The order of pairs does not count.
pub data Runs (P : NamedProgram) (old : Seen) (todo : List Pair) (bound : List ℕ) : (new : Seen) (left : List Pair)
    (bound' : List ℕ) → Type 0 where
  start : Runs P old todo bound old todo bound
  looked : (mid new : Seen) (left : List Pair) (further : List ℕ)
      → Runs P old todo bound mid left further → OnlyReads mid new
      → Runs P old todo bound new left further
  sorted : (new : Seen) (left other : List Pair) (further : List ℕ) → Runs P old todo bound new left further
      → AreSame left other
      → Runs P old todo bound new other further
  stepped : (mid new : Seen) (p : Pair) (rest left : List Pair) (further last : List ℕ)
      → Runs P old todo bound mid (p ∷ rest) further
      → StepsPlainly P p mid new rest left further last → Runs P old todo bound new left last

-- the pairs of the arguments of two structures
abbrev pub arguments_of_both : NamedProgram → Pair → List Pair
arguments_of_both P both = pairs_of (parts_of P both.left) (parts_of P both.right)

-- What one pair comes to.
abbrev pub MeetsPlainly : NamedProgram → Pair → (old new : Seen) → (bound bound' : List ℕ) → Plainly → Type 0
MeetsPlainly P p old new bound bound' Done = (list : List Pair) → StepsPlainly P p old new list list bound bound'
MeetsPlainly P p old new bound bound' (Onward both) =
    MeetStructures P p.left p.right old new both.left both.right × (bound' ≡ bound)
MeetsPlainly P p old new bound bound' (Apart one other) =
    MeetApart P p.left p.right old new one other × (bound' ≡ bound)
MeetsPlainly P p old new bound bound' Memory = OnlyReads old new × (bound' ≡ bound)

-- Of the pairs that were to do, this one is apart.
pub record BreaksOff (P : NamedProgram) (old new : Seen) (todo : List Pair) (bound bound' : List ℕ)
    (one other : Ref) : Type 0 where
  pub p : Pair
  pub rest : List Pair
  pub mid : Seen
  pub runs : Runs P old todo bound mid (p ∷ rest) bound'
  pub meets : MeetApart P p.left p.right mid new one other

-- What pairs that were to do come to, where those of a list are left, and the arguments of the structures that are
-- gone on with.
abbrev pub ComesTo : NamedProgram → (old new : Seen) → (todo list : List Pair)
    → (bound bound' : List ℕ) → Plainly → Type 0
ComesTo P old new todo list bound bound' Done = Runs P old todo bound new list bound'
ComesTo P old new todo list bound bound' (Onward both) =
    AreOfOneShape P new.words both.left both.right × Runs P old todo bound new (arguments_of_both P both ++ list) bound'
ComesTo P old new todo list bound bound' (Apart one other) = BreaksOff P old new todo bound bound' one other
ComesTo P old new todo list bound bound' Memory = (left : List Pair) × Runs P old todo bound new left bound'
