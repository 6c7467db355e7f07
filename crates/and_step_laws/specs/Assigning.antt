-- A number that is written into a pair of words, and settled with a term.
use Rattle.std.specs.Prelude.{ℕ, ℤ, suc, ◌+◌, ◌<◌, ◌≡◌, ◌++◌, [], ◌∷◌, List, length, Contains}
use Rattle.and_model.specs.Terms.{Path, number, variables_of}
use Rattle.and_model.specs.Solutions.{Solvable}
use Rattle.and_model.specs.declared.reference.Ref.{Ref}
use Rattle.and_model.specs.declared.reference.Ref.TheVariants.{Free}
use Rattle.and_program.specs.Skeletons.{node_term}
use Rattle.and_cells.specs.Ranges.{NamedProgram, IsPairInRange}
use Rattle.and_cells.specs.Rows.{IsSound}
use Rattle.and_cells.specs.Seen.{word_at}
use Rattle.and_cells.specs.Meaning.{equations_of}
use Rattle.and_branch_laws.specs.Settling.{Settled, IsWritten}
use Rattle.and_branch_laws.specs.Variables.{placed}
use Rattle.and_branch_laws.specs.Goals.{CanBeRead}
use Rattle.and_step_laws.specs.Runs.{IsUnnamed}

-- Both words of the pair are of the row, are free, and are named by no word that was set.
pub record IsFreePair (P : NamedProgram) (row : List Ref) (pair : ℕ) : Type 0 where
  pub in_range : IsPairInRange (length row) pair
  pub high_free : word_at row pair ≡ Free
  pub low_free : word_at row (suc pair) ≡ Free
  pub high_unnamed : IsUnnamed P row pair
  pub low_unnamed : IsUnnamed P row (suc pair)

-- A number can be written into the pair and settled with the node: this can be read in the frame at the base, and its
-- cells lie before the pair.
pub record CanBeAssigned (P : NamedProgram) (row : List Ref) (base node pair : ℕ) : Type 0 where
  pub reads : CanBeRead P row base node
  pub pair_is_free : IsFreePair P row pair
  pub before : (v : Path × ℕ) → Contains (variables_of (node_term P.skeleton.nodes node)) v → base + 1 + v.1 < pair

-- The number was written, and settled with the node.
pub record IsAssigned (P : NamedProgram) (old new : List Ref) (base node pair : ℕ) (z : ℤ) : Type 0 where
  pub written : List Ref
  pub sound : IsSound P written
  pub is_written : IsWritten old written pair z
  pub settled : Settled P written new ((placed base (node_term P.skeleton.nodes node), number z) ∷ [])

-- The number that was written has no solution with the node.
pub record IsRefused (P : NamedProgram) (old : List Ref) (base node pair : ℕ) (z : ℤ) : Type 0 where
  pub written : List Ref
  pub sound : IsSound P written
  pub is_written : IsWritten old written pair z
  pub unsolved : Solvable (equations_of P written ++ (placed base (node_term P.skeleton.nodes node), number z) ∷ []) → ⊥
