-- What contracts see of a branch, what is read in its cells, and what it stands for.
use Rattle.std.specs.Prelude.{ℕ, ◌+◌, ◌<◌, ◌≡◌, Bool, false, List, ◌++◌, All, Contains}
use Rattle.and_model.specs.Terms.{Path, Term, variables_of}
use Rattle.and_model.specs.Reductions.{Reduction}
use Rattle.and_model.specs.Stands.{Branch, Stands, term_of}
use Rattle.and_model.specs.declared.goal.Goal.{Goal}
use Rattle.and_model.specs.declared.reference.Ref.{Ref}
use Rattle.and_model.specs.declared.reference.Ref.TheVariants.{Cell}
use Rattle.and_cells.specs.Ranges.{NamedProgram}
use Rattle.and_cells.specs.Meaning.{StandsFor}

-- What contracts see of a branch: what it keeps, but a row of words in place of what is read in it.
pub record View : Type 0 where
  pub key : List ℕ
  -- its tree, written down
  pub reductions : List Reduction
  -- its cells
  pub row : List Ref
  -- its open goals, and its arithmetic that waits, both in preorder
  pub goals : List Goal
  pub waiting : List Goal
  -- the weight used, and its limit
  pub used : ℕ
  pub limit : ℕ
  pub is_failed : Bool

-- The terms that are read for the query's variables, whose frame is at base 0, and for those of each goal, in the
-- frame at its base, are those of their cells.
pub record IsReadIn (P : NamedProgram) (row : List Ref) (reading : (base number : ℕ)
    → Term) (gs : List Goal) : Type 0 where
  pub query : (k : ℕ) → k < P.program.query.variables → StandsFor P row (Cell (0 + 1 + k)) (reading 0 k)
  pub goals : All (λ (g : Goal). (v : Path × ℕ) → Contains (variables_of (term_of P.program g)) v
      → StandsFor P row (Cell (g.base + 1 + v.1)) (reading g.base v.1)) gs

-- the branch of a view, with what is read
abbrev pub branch_of : View → (reading : (base number : ℕ) → Term) → Branch
branch_of v reading = record {
  key = v.key;
  reductions = v.reductions;
  reading = reading;
  goals = v.goals;
  waiting = v.waiting;
  used = v.used;
  limit = v.limit;
  is_failed = v.is_failed;
}

-- StandsIn v key P limit: what the branch stands for, as it is read in its cells. (In those of a failed branch
-- nothing need be read.)
pub record StandsIn (v : View) (key : List ℕ) (P : NamedProgram) (limit : ℕ) : Type 0 where
  pub reading : (base number : ℕ) → Term
  pub stands : Stands (branch_of v reading) key P.program limit
  pub read : v.is_failed ≡ false → IsReadIn P v.row reading (v.goals ++ v.waiting)
