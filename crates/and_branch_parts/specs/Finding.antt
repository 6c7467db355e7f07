-- What is found of the goals of a branch, from left to right.
use Rattle.std.specs.Prelude.{ℕ, ◌+◌, ◌≡◌, ◌⊎◌, false, List, ◌∷◌, ◌++◌, length, Contains, Option, None, Some}
use Rattle.and_model.specs.Terms.{Path, Term, variables_of}
use Rattle.and_model.specs.Programs.{Item, call, arithmetic, Arithmetic}
use Rattle.and_model.specs.Stands.{term_of}
use Rattle.and_model.specs.Store.{is_half}
use Rattle.and_model.specs.declared.goal.Goal.{Goal}
use Rattle.and_model.specs.declared.reference.Ref.{Ref}
use Rattle.and_cells.specs.Ranges.{NamedProgram, IsGoalInRange}
use Rattle.and_cells.specs.Seen.{word_at}
use Rattle.and_branch_laws.specs.Kept.{item_at, node_item_at, HasFreePair}
use Rattle.and_branch_laws.specs.Judging.{CandidateInCells, SoleInCells, FitsBehind}
use Rattle.and_reduction.specs.Runs.{HasUnnamedPair}
use Rattle.and_branch_parts.specs.Branches.{is_arithmetic, IsArithmeticGoal}
use Rattle.and_branch_parts.specs.Watching.{HasTwo}
use Rattle.and_branch_parts.specs.declared.finding.HeavyCall.{HeavyCall}
use Rattle.and_branch_parts.specs.declared.finding.RoundSoFar.{RoundSoFar}
use Rattle.and_branch_parts.specs.declared.finding.RoundSoFar.TheVariants.{NoCall, Several, Heavy}
use Rattle.and_branch_parts.specs.declared.finding.Seen.{Seen}
use Rattle.and_branch_parts.specs.declared.finding.Seen.TheVariants as seen

-- the goal is a call
abbrev pub IsCallGoal : NamedProgram → Goal → Type 0
IsCallGoal P g = is_arithmetic (item_at P.program g) ≡ false

-- the item is a call, or arithmetic
abbrev pub IsCallOrArithmetic : Item → Type 0
IsCallOrArithmetic i = ((term : Term) × (i ≡ call term)) ⊎ ((what : Arithmetic) × (i ≡ arithmetic what))

-- A goal that a branch keeps, as its cells have it: it is in range, a call or arithmetic, no cell of its variables is
-- a word of a pair, and its own pair is free and named by no word.
pub record IsSeen (P : NamedProgram) (row : List Ref) (g : Goal) : Type 0 where
  pub in_range : IsGoalInRange P (length row) g
  pub kind : IsCallOrArithmetic (item_at P.program g)
  pub whole : (v : Path × ℕ) → Contains (variables_of (term_of P.program g)) v
      → is_half (word_at row (g.base + 1 + v.1)) ≡ false
  pub free : HasFreePair P row g (node_item_at P g)
  pub unnamed : HasUnnamedPair P row g (node_item_at P g)

-- So it is with each call among these goals.
abbrev pub AllCalls : NamedProgram → (Goal → Type 0) → List Goal → Type 0
AllCalls P Q gs = (g : Goal) → Contains gs g → IsCallGoal P g → Q g

-- A goal has a candidate;
abbrev pub HasOne : NamedProgram → List Ref → Goal → Type 0
HasOne P row g = (c : ℕ) × CandidateInCells P row g c

-- it has not one alone,
abbrev pub HasNoSole : NamedProgram → List Ref → Goal → Type 0
HasNoSole P row g = (d : ℕ) → SoleInCells P row g d → ⊥

-- or not one alone that fits.
abbrev pub HasNoFitting : NamedProgram → ℕ → List Ref → Goal → Type 0
HasNoFitting P limit row g = (d : ℕ) → SoleInCells P row g d → FitsBehind P limit row d → ⊥

-- The call is one of these goals, behind some and before others.
pub record IsCallAmong (P : NamedProgram) (gs : List Goal) (goal : Goal) : Type 0 where
  pub front : List Goal
  pub back : List Goal
  pub all : gs ≡ front ++ goal ∷ back
  pub called : IsCallGoal P goal

-- It is the first call.
pub record IsFirstCall (P : NamedProgram) (gs : List Goal) (goal : Goal) : Type 0 where
  pub among : IsCallAmong P gs goal
  pub first : AllCalls P (λ g. ⊥) among.front

-- It is the first call, and each has two candidates.
pub record IsSeveral (P : NamedProgram) (row : List Ref) (gs : List Goal) (goal : Goal) : Type 0 where
  pub among : IsCallAmong P gs goal
  pub first : AllCalls P (λ g. ⊥) among.front
  pub each : AllCalls P (HasTwo P row) gs

-- It is the first with one candidate alone, and no call has one alone that fits.
pub record IsHeavy (P : NamedProgram) (limit : ℕ) (row : List Ref) (gs : List Goal) (goal : Goal)
    (clause : ℕ) : Type 0 where
  pub among : IsCallAmong P gs goal
  pub sole : SoleInCells P row goal clause
  pub first : AllCalls P (HasNoSole P row) among.front
  pub each : AllCalls P (HasOne P row) gs
  pub none : AllCalls P (HasNoFitting P limit row) gs

-- That was found of these goals.
abbrev pub HasFound : NamedProgram → ℕ → List Ref → List Goal → RoundSoFar → Type 0
HasFound P limit row gs NoCall = AllCalls P (λ g. ⊥) gs
HasFound P limit row gs (Several goal) = IsSeveral P row gs goal
HasFound P limit row gs (Heavy goal clause) = IsHeavy P limit row gs goal clause.0

-- This is known of the calls among goals: each has two candidates; or this is the first with one alone, for which
-- there is no room, and none has one alone that fits.
abbrev pub HasHeavy : NamedProgram → ℕ → List Ref → List Goal → Option HeavyCall → Type 0
HasHeavy P limit row gs None = AllCalls P (HasTwo P row) gs
HasHeavy P limit row gs (Some heavy) = IsHeavy P limit row gs heavy.goal heavy.clause.0

-- the first such call, with one more goal behind, of which this was seen
abbrev pub with_passed : Option HeavyCall → Goal → Seen → Option HeavyCall
with_passed heavy goal seen.Arithmetic = heavy
with_passed heavy goal seen.Several = heavy
with_passed None goal (seen.Heavy clause) = Some (record { goal = goal; clause = clause })
with_passed (Some first) goal (seen.Heavy clause) = Some first
with_passed heavy goal seen.NotJudged = heavy

-- That is what the goal is in the row.
abbrev pub HasSeen : NamedProgram → ℕ → List Ref → Goal → Seen → Type 0
HasSeen P limit row goal seen.Arithmetic = IsArithmeticGoal P goal
HasSeen P limit row goal seen.Several = IsCallGoal P goal × HasTwo P row goal
HasSeen P limit row goal (seen.Heavy clause) =
    IsCallGoal P goal × SoleInCells P row goal clause.0 × (FitsBehind P limit row clause.0 → ⊥)
HasSeen P limit row goal seen.NotJudged = ⊥
