-- Rounds over the goals of a branch.
use Rattle.std.specs.Prelude.{ℕ, ◌≡◌, ◌<◌, ◌≤◌, ◌+◌, ◌^◌, ◌⊎◌, Bool, true, false, List, [], ◌∷◌, ◌++◌, length, Contains}
use Rattle.std.specs.Prelude.{Option, Some, None}
use Rattle.and_model.specs.Terms.{Term}
use Rattle.and_model.specs.Programs.{call, Of}
use Rattle.and_model.specs.Trees.{QueryTree}
use Rattle.and_model.specs.Reached.{Steps}
use Rattle.and_model.specs.Stands.{term_of}
use Rattle.and_model.specs.declared.goal.Goal.{Goal}
use Rattle.and_model.specs.declared.reference.Ref.{Ref}
use Rattle.and_cells.specs.Ranges.{NamedProgram}
use Rattle.and_branch_laws.specs.Judging.{CandidateInCells, SoleInCells, FitsBehind}
use Rattle.and_branch_laws.specs.Kept.{item_at}
use Rattle.and_reduction.specs.Runs.{IsWaiting}
use Rattle.and_branch_parts.specs.Branches.{Held, IsBranch, IsBranchOf}
use Rattle.and_branch_parts.specs.Finding.{HasFound, HasSeen}
use Rattle.and_branch_parts.specs.Origins.{KeepsBack}
use Rattle.and_branch_parts.specs.Resting.{IsResting}
use Rattle.and_branch_parts.specs.Watching.{Watched, Sleeps, IsAsleep}
use Rattle.and_branch_parts.specs.declared.rounds.Looked.{Looked}
use Rattle.and_branch_parts.specs.declared.rounds.Looked.TheVariants.{Ended, Passed, Ran, Reduced, Failed}
use Rattle.and_branch_parts.specs.declared.rounds.Round.{Round}
use Rattle.and_branch_parts.specs.declared.rounds.Round.TheVariants as round
use Rattle.and_branch_parts.specs.declared.finding.RoundSoFar.{RoundSoFar}
use Rattle.and_branch_parts.specs.declared.finding.Seen.{Seen}

-- The clause is one of the call's predicate, and no other one is a candidate.
abbrev pub IsAtMost : NamedProgram → List Ref → Goal → ℕ → Type 0
IsAtMost P row g c = Of P.program (term_of P.program g) c × ((d : ℕ) → CandidateInCells P row g d → d ≡ c)

-- Nothing is to be done for the goal in the row: it is arithmetic that waits, or a call that has no candidate alone
-- which fits.
pub record IsIdle (P : NamedProgram) (limit : ℕ) (row : List Ref) (g : Goal) : Type 0 where
  pub waits : IsWaiting P row g
  pub several : (term : Term) → item_at P.program g ≡ call term → (c : ℕ) → SoleInCells P row g c
      → FitsBehind P limit row c → ⊥

-- So it is with each goal of the branch.
abbrev pub IsStill : NamedProgram → Held → Type 0
IsStill P b = (g : Goal) → Contains (b.left ++ b.right) g → IsIdle P b.limit b.row g

-- The new branch stands for a tree to which Steps lead from the old one's, and what could be had again of the old one
-- can be of the new.
pub record StepsOn (P : NamedProgram) (old new : Held) : Type 0 where
  pub each : (t : QueryTree P.program) → IsBranchOf P old t → (u : QueryTree P.program) × IsBranchOf P new u × Steps t u
  pub back : KeepsBack old new

-- how many goals there are
abbrev pub goal_count : Held → ℕ
goal_count b = length b.left + length b.right

-- There are not so many goals that their number could not be told. (A measure rests on it.)
abbrev pub AreFew : Held → Type 0
AreFew b = goal_count b < 2 ^ 64

-- The tree grew, or a goal less is left.
abbrev pub HasProgressed : (old new : Held) → Type 0
HasProgressed old new = AreFew new
    × ((old.used < new.used) ⊎ ((new.used ≡ old.used) × (goal_count new < goal_count old)))

-- Nothing was done for any goal.
pub record IsAlike (old new : Held) : Type 0 where
  pub limit : new.limit ≡ old.limit
  pub row : new.row ≡ old.row
  pub used : new.used ≡ old.used
  pub failed : new.is_failed ≡ old.is_failed
  pub goals : new.left ++ new.right ≡ old.left ++ old.right

-- Nothing is different but what is watched: what is so now was watched, or is asleep.
pub record WatchesOn (P : NamedProgram) (old new : Held) : Type 0 where
  pub others : new ≡ record old { watches = new.watches }
  pub asleep : (w : Watched) → Contains new.watches w → Contains old.watches w ⊎ IsAsleep P old.row w

-- The next goal, before these, is left out, and what is watched was watched.
pub record IsDropped (old new : Held) (rest : List Goal) : Type 0 where
  pub others : new ≡ record old { right = rest; watches = new.watches }
  pub watches : (w : Watched) → Contains new.watches w → Contains old.watches w

-- The next goal was passed over; and if it might have been reduced, nothing is to be done for it, and this was seen
-- of it.
pub record HasPassed (P : NamedProgram) (may : Bool) (old new : Held) (goal : Goal) (seen : Seen) : Type 0 where
  pub alike : IsAlike old new
  pub next : old.right ≡ goal ∷ new.right
  pub passed : new.left ≡ old.left ++ goal ∷ []
  pub idle : may ≡ true → IsIdle P old.limit old.row goal × HasSeen P old.limit old.row goal seen

-- The next goals were passed over, for none of which anything is to be done: they sleep.
pub record HasPassedSleepers (P : NamedProgram) (old new : Held) : Type 0 where
  pub alike : IsAlike old new
  pub passed : List Goal
  pub next : old.right ≡ passed ++ new.right
  pub left : new.left ≡ old.left ++ passed
  pub sleep : old.is_failed ≡ false → (g : Goal) → Contains passed g → Sleeps P old.row g

-- For none of the goals before the place of work is anything to be done.
abbrev pub LeftIsIdle : NamedProgram → Held → Type 0
LeftIsIdle P b = (g : Goal) → Contains b.left g → IsIdle P b.limit b.row g

-- what a look at the next goal came to
abbrev pub LookIs : NamedProgram → (may : Bool) → (old new : Held) → Looked → Type 0
LookIs P may old new Ended = (new ≡ old) × (old.right ≡ []) × (old.is_failed ≡ false)
LookIs P may old new (Passed goal seen) = HasPassed P may old new goal seen
LookIs P may old new Ran = HasProgressed old new × (new.used ≡ old.used) × (length new.right < length old.right)
LookIs P may old new (Reduced taken) = HasProgressed old new × (may ≡ true) × (old.used < new.used) × (1 ≤ taken)
LookIs P may old new Failed = new.is_failed ≡ true

-- The branch is at work behind its goals, for none of which anything is to be done, and this was found of them.
pub record IsStillWith (P : NamedProgram) (b : Held) (found : RoundSoFar) : Type 0 where
  pub still : IsStill P b
  pub rests : IsResting P b
  pub has : HasFound P b.limit b.row b.left found
  pub live : b.is_failed ≡ false

-- So it is where that was found; else the branch is marked failed.
abbrev pub HasStilled : NamedProgram → Held → Option RoundSoFar → Type 0
HasStilled P b None = b.is_failed ≡ true
HasStilled P b (Some found) = IsStillWith P b found

-- what a round came to
abbrev pub RoundIs : NamedProgram → (old new : Held) → Round → Type 0
RoundIs P old new round.Changed = HasProgressed old new
RoundIs P old new (round.Still found) = IsStillWith P new found
RoundIs P old new round.Failed = new.is_failed ≡ true

-- The branch is not failed, and this is its next goal.
pub record IsAt (P : NamedProgram) (b : Held) (g : Goal) : Type 0 where
  pub branch : IsBranch P b
  pub live : b.is_failed ≡ false
  pub rest : List Goal
  pub next : b.right ≡ g ∷ rest
