-- What a reduction and a run of arithmetic set in a row.
use Rattle.std.specs.Prelude.{ℕ, ℤ, ◌≡◌, ◌⊎◌, List, length, Contains}
use Rattle.and_model.specs.declared.goal.Goal.{Goal}
use Rattle.and_model.specs.declared.reference.Ref.{Ref}
use Rattle.and_model.specs.declared.reference.Ref.TheVariants.{Number}
use Rattle.and_program.specs.Skeletons
use Rattle.and_cells.specs.Ranges.{NamedProgram, pair_of}
use Rattle.and_cells.specs.Parts.{part_at}
use Rattle.and_unify.specs.declared.pairs.Pair.{Pair}
use Rattle.and_unify.specs.Pairs.{AreInRange}
use Rattle.and_unify.specs.Places.{sides}
use Rattle.and_unify.specs.Settling.{SetsPlaces}
use Rattle.and_branch_laws.specs.Kept.{node_item_at}
use Rattle.and_branch_laws.specs.Settling.{IsWritten}
use Rattle.and_reduction.specs.Asked.{the_pair}

-- the reference is what a node comes to in the frame at the base
abbrev pub IsNodeAt : NamedProgram → (base : ℕ) → Ref → Type 0
IsNodeAt P base r = (node : ℕ) × (r ≡ part_at P base node)

-- Each side of the pairs is one of these references, or a node in the frame at the floor.
pub record AskNodes (P : NamedProgram) (floor : ℕ) (tops : List Ref) (pairs : List Pair) : Type 0 where
  pub each : (r : Ref) → Contains (sides pairs) r → Contains tops r ⊎ IsNodeAt P floor r

-- Such pairs were settled: each word that was set is something to which their sides and words of the row led.
pub record SetsNodes (P : NamedProgram) (old new : List Ref) (floor : ℕ) (tops : List Ref) : Type 0 where
  pub pairs : List Pair
  pub in_range : AreInRange P (length old) pairs
  pub asked : AskNodes P floor tops pairs
  pub sets : SetsPlaces P old new pairs

-- A number was written into a pair of words, and settled with the node.
pub record SetsNumber (P : NamedProgram) (old new : List Ref) (base node pair : ℕ) : Type 0 where
  pub z : ℤ
  pub written : List Ref
  pub is_written : IsWritten old written pair z
  pub sets : SetsPlaces P written new (the_pair (part_at P base node) (Number pair))

-- What a run of the goal set: nothing, or what settling its left node with the number in its pair of words did.
pub data SetsByRun (P : NamedProgram) (old new : List Ref) (g : Goal) : Type 0 where
  nothing : new ≡ old → SetsByRun P old new g
  number : (left right pair : ℕ) → node_item_at P g ≡ Skeletons.is left right pair
      → SetsNumber P old new g.base left (pair_of P g.clause.0 g.base pair) → SetsByRun P old new g
