-- Goals of arithmetic by their nodes, and what can be done with these.
use Rattle.std.specs.Prelude.{ℕ, ℤ, suc, ◌<◌, ◌≤◌, ◌≡◌, [], ◌∷◌, List, length}
use Rattle.and_model.specs.Terms.{number}
use Rattle.and_model.specs.Arithmetic.{Relation}
use Rattle.and_model.specs.Programs.{arithmetic}
use Rattle.and_model.specs.Programs as programs
use Rattle.and_model.specs.declared.goal.Goal.{Goal}
use Rattle.and_model.specs.declared.reference.Ref.{Ref}
use Rattle.and_program.specs.Skeletons.{NodeItem, node_term, call, equal, is, compare, fail}
use Rattle.and_cells.specs.Ranges.{NamedProgram, pair_of}
use Rattle.and_cells.specs.Rows.{IsSound}
use Rattle.and_cells.specs.Meaning.{IsSettled}
use Rattle.and_branch_laws.specs.Goals.{CanBeRead}
use Rattle.and_branch_laws.specs.Kept.{item_at, node_item_at}
use Rattle.and_branch_laws.specs.Settling.{IsWritten}
use Rattle.and_branch_laws.specs.Variables.{placed}
use Rattle.and_unify.specs.declared.pairs.Pair.{Pair}
use Rattle.and_step_laws.specs.Asking.{Ask}
use Rattle.and_step_laws.specs.Assigning.{CanBeAssigned}

-- The goal compares these nodes, and both can be read.
pub record Compares (P : NamedProgram) (row : List Ref) (g : Goal) (o : Relation) (n m : ℕ) : Type 0 where
  pub item_is : item_at P.program g ≡ arithmetic
      (programs.compare o (node_term P.skeleton.nodes n) (node_term P.skeleton.nodes m))
  pub left : CanBeRead P row g.base n
  pub right : CanBeRead P row g.base m

-- The goal is `is` between these nodes, with this pair of words. The right one can be read, and a number can be written
-- into the pair and settled with the left one.
pub record Assigns (P : NamedProgram) (row : List Ref) (g : Goal) (n m pair : ℕ) : Type 0 where
  pub item_is : item_at P.program g ≡ arithmetic
      (programs.is (node_term P.skeleton.nodes n) (node_term P.skeleton.nodes m))
  pub node : node_item_at P g ≡ is n m pair
  pub there : g.clause.0 ≤ length P.program.clauses
  pub right : CanBeRead P row g.base m
  pub within : suc (pair_of P g.clause.0 g.base pair) < length row
  pub left : CanBeAssigned P row g.base n (pair_of P g.clause.0 g.base pair)

-- The item is that of a goal of arithmetic that can be run: one or the other.
abbrev pub IsRunnable : NamedProgram → List Ref → Goal → NodeItem → Type 0
IsRunnable P row g (call n) = ⊥
IsRunnable P row g (equal n m) = ⊥
IsRunnable P row g (is n m pair) = Assigns P row g n m pair
IsRunnable P row g (compare o n m) = Compares P row g o n m
IsRunnable P row g fail = ⊥

-- The number was written into the pair, and these pairs ask that the node be made one with it, and nothing else.
pub record IsAskedFor (P : NamedProgram) (old new : List Ref) (base node pair : ℕ) (z : ℤ)
    (pairs : List Pair) : Type 0 where
  pub written : IsWritten old new pair z
  pub sound : IsSound P new
  pub settled : IsSettled P new
  pub asked : Ask P new (length new) pairs ((placed base (node_term P.skeleton.nodes node), number z) ∷ [])
