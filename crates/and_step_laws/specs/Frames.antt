-- Frames that were put behind a row, before anything is settled in them.
use Rattle.std.specs.Prelude.{ℕ, ◌+◌, ◌<◌, ◌≤◌, ◌≡◌, List, length, Contains}
use Rattle.and_model.specs.Terms.{Path, variables_of}
use Rattle.and_model.specs.Programs.{clause_at, clause_weight}
use Rattle.and_model.specs.Stands.{term_of}
use Rattle.and_model.specs.declared.goal.Goal.{Goal}
use Rattle.and_model.specs.declared.limits.TheConstants.{MAX_LIMIT}
use Rattle.and_model.specs.declared.reference.Ref.{Ref}
use Rattle.and_model.specs.declared.reference.Ref.TheVariants.{Free}
use Rattle.and_cells.specs.Ranges.{NamedProgram}
use Rattle.and_cells.specs.Seen.{word_at, IsSetTo}
use Rattle.and_cells.specs.Meaning.{IsSettled}
use Rattle.and_unify.specs.Settling.{NamesBelow}
use Rattle.and_branch_laws.specs.Goals.{CanBeJudged}

-- The words from the floor on are a new frame of the clause: they are free, and no word that was set names one of
-- them. What lies before them is settled.
pub record IsFrame (P : NamedProgram) (row : List Ref) (clause floor : ℕ) : Type 0 where
  pub long : length row ≡ floor + clause_weight (clause_at P.program clause)
  pub free : (cell : ℕ) → floor ≤ cell → word_at row cell ≡ Free
  pub named_below : (cell : ℕ) (r : Ref) → IsSetTo row cell r → NamesBelow P floor r
  pub settled : IsSettled P row
  pub short : length row ≤ MAX_LIMIT

-- The goal is a call that can be judged in the row, and the cells of its variables lie below the floor.
pub record IsCallBelow (P : NamedProgram) (row : List Ref) (floor : ℕ) (g : Goal) : Type 0 where
  pub judged : CanBeJudged P row g
  pub below : (v : Path × ℕ) → Contains (variables_of (term_of P.program g)) v → g.base + 1 + v.1 < floor
