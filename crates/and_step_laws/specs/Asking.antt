-- What unification is asked in a new frame.
use Rattle.std.specs.Prelude.{ℕ, ◌≡◌, List, length, All}
use Rattle.and_model.specs.Solutions.{Equation}
use Rattle.and_model.specs.declared.reference.Ref.{Ref}
use Rattle.and_program.specs.Skeletons.{NodeItem, call, equal, is, compare, fail}
use Rattle.and_cells.specs.Ranges.{NamedProgram}
use Rattle.and_cells.specs.Rows.{plain}
use Rattle.and_cells.specs.Seen.{word_at}
use Rattle.and_unify.specs.Pairs.{AreInRange, AreWritten, NameNoHalf, equations_of_pairs}
use Rattle.and_unify.specs.Settling.{KeepsBelow}
use Rattle.and_unify.specs.declared.pairs.Pair.{Pair}
use Rattle.and_branch_laws.specs.Goals.{CanBeRead}

-- The pairs can be handed to unification over the row, whose words from the floor on are new.
pub record AreReady (P : NamedProgram) (row : List Ref) (floor : ℕ) (pairs : List Pair) : Type 0 where
  pub in_range : AreInRange P (length row) pairs
  pub written : AreWritten (plain row) pairs
  pub whole : NameNoHalf P (word_at row) pairs
  pub sides : All (λ (p : Pair). KeepsBelow P floor p.left × KeepsBelow P floor p.right) pairs

-- They can, and ask for just these equations.
pub record Ask (P : NamedProgram) (row : List Ref) (floor : ℕ) (pairs : List Pair) (es : List Equation) : Type 0 where
  pub ready : AreReady P row floor pairs
  pub equations : equations_of_pairs P (word_at row) pairs ≡ es

-- Where the item is `=`, its nodes can be read in the frame at the floor.
abbrev pub CanBeAsked : NamedProgram → (row : List Ref) → (floor : ℕ) → NodeItem → Type 0
CanBeAsked P row floor (call n) = Unit {0}
CanBeAsked P row floor (equal n m) = CanBeRead P row floor n × CanBeRead P row floor m
CanBeAsked P row floor (is n m pair) = Unit {0}
CanBeAsked P row floor (compare relation n m) = Unit {0}
CanBeAsked P row floor fail = Unit {0}
