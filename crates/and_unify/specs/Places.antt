-- Places in terms: what references lead to.
use Rattle.std.specs.Prelude.{ℕ, ◌≡◌, ◌≢◌, ◌++◌, List, map, length, All, AllPairs, Contains}
use Rattle.and_model.specs.declared.numbers.NodeNo.{NodeNo}
use Rattle.and_model.specs.declared.reference.Ref.{Ref}
use Rattle.and_model.specs.declared.reference.Ref.TheVariants.{Cell, Node}
use Rattle.and_cells.specs.Ranges.{NamedProgram}
use Rattle.and_cells.specs.Seen.{Seen, Knows}
use Rattle.and_cells.specs.Parts.{parts_of}
use Rattle.and_unify.specs.declared.pairs.Pair.{Pair}

abbrev pub left_sides : List Pair → List Ref
left_sides pairs = map (λ (p : Pair). p.left) pairs

abbrev pub sides : List Pair → List Ref
sides pairs = left_sides pairs ++ map (λ (p : Pair). p.right) pairs

-- A place that some of the roots lead to: a root, what a cell at a place is known to be set to, and a part of a
-- structure at a place. A place is one, however many ways lead to it.
pub data IsPlace (P : NamedProgram) (s : Seen) (roots : List Ref) : Ref → Type 0 where
  root : (r : Ref) → Contains roots r → IsPlace P s roots r
  set : (cell : ℕ) (r : Ref) → IsPlace P s roots (Cell cell) → Knows s cell r → IsPlace P s roots r
  part : (node : NodeNo) (base : ℕ) (r : Ref) → IsPlace P s roots (Node node base)
      → Contains (parts_of P (Node node base)) r → IsPlace P s roots r

-- so many places, no place twice
pub record Places (P : NamedProgram) (s : Seen) (roots : List Ref) (count : ℕ) : Type 0 where
  pub places : List Ref
  pub distinct : AllPairs (λ (r q : Ref). r ≢ q) places
  pub of_roots : All (IsPlace P s roots) places
  pub counted : length places ≡ count
