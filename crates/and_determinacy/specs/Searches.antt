-- The first of a list of clauses that is a candidate.
use Rattle.std.specs.Prelude.{ℕ, ◌+◌, ◌≡◌, ◌<◌, ◌≤◌, List, length, slice_get, Some}
use Rattle.and_model.specs.declared.numbers.ClauseNo.{ClauseNo}
use Rattle.and_model.specs.declared.reference.Ref.{Ref}
use Rattle.and_program.specs.Skeletons.{node_term}
use Rattle.and_cells.specs.Ranges.{NamedProgram}
use Rattle.and_clause_index.specs.Served.{NodeHas}
use Rattle.and_determinacy.specs.Watching.{StaysWhile}
use Rattle.and_determinacy.specs.declared.judging.Found.{Found}
use Rattle.and_determinacy.specs.declared.judging.Judged.{Judged}
use Rattle.and_determinacy.specs.declared.judging.Judged.TheVariants.{Nothing, One, Several}
use Rattle.and_determinacy.specs.declared.judging.Two.{Two}

-- the clause is a candidate of the node, and stays one while these cells are free
abbrev pub NodeKeeps : NamedProgram → List Ref → (node base : ℕ) → List ℕ → ClauseNo → Type 0
NodeKeeps P row node base cells c = NodeHas P row node base c
    × StaysWhile P row base (node_term P.skeleton.nodes node) cells c.0

-- Of the clauses from one place on, none before the other is so.
abbrev pub NoneFrom : (ClauseNo → Type 0) → List ClauseNo → (from to : ℕ) → Type 0
NoneFrom Q clauses from to = (k : ℕ) (c : ClauseNo) → from ≤ k → k < to → slice_get clauses k ≡ Some c → Q c → ⊥

-- Of the clauses from a place on, the one that was found is so, and is the first.
pub record IsNextOf (Q : ClauseNo → Type 0) (clauses : List ClauseNo) (from : ℕ) (found : Found) : Type 0 where
  pub place : ℕ
  pub behind : found.behind ≡ place + 1
  pub after : from ≤ place
  pub there : slice_get clauses place ≡ Some found.clause
  pub is_so : Q found.clause
  pub first : NoneFrom Q clauses from place

-- so many of the clauses from a place on are so: none, this one alone, or two
abbrev pub IsCount : (ClauseNo → Type 0) → List ClauseNo → (from : ℕ) → Judged → Type 0
IsCount Q clauses from Nothing = NoneFrom Q clauses from (length clauses)
IsCount Q clauses from (One clause) =
    (found : Found) × (found.clause ≡ clause) × IsNextOf Q clauses from found
    × NoneFrom Q clauses found.behind (length clauses)
IsCount Q clauses from Several = (one : Found) × (two : Found) × IsNextOf Q clauses from one
    × IsNextOf Q clauses one.behind two

-- No clause but those at two places is so.
pub record AreTwo (Q : ClauseNo → Type 0) (clauses : List ClauseNo) (two : Two) : Type 0 where
  pub order : two.first < two.second
  pub there : two.second < length clauses
  pub before : NoneFrom Q clauses 0 two.first
  pub between : NoneFrom Q clauses (two.first + 1) two.second
  pub behind : NoneFrom Q clauses (two.second + 1) (length clauses)
