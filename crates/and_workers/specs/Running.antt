-- What a worker knows of the arithmetic that it may run (this project's own).
use Rattle.std.specs.Prelude.{ℕ, ℤ, Bool, [], ◌∷◌, ◌++◌, true, Some, ◌≡◌, ◌<◌, ◌⊎◌, List, Contains}
use Rattle.and_model.specs.declared.goal.Goal.{Goal}
use Rattle.and_model.specs.declared.numbers.ClauseNo.{ClauseNo}
use Rattle.and_model.specs.Arithmetic.{value, Relation, related}
use Rattle.and_model.specs.Store.{JournalEntry}
use Rattle.and_model.specs.Terms.{Term, Substitution, apply, is_ground}
use Rattle.and_model.specs.declared.reference.Ref.{Ref}
use Rattle.and_program.specs.Skeletons.{node_term}
use Rattle.and_cells.specs.Meaning.{Words}
use Rattle.and_cells.specs.Ranges.{NamedProgram}
use Rattle.and_branch_laws.specs.Variables.{placed}
use Rattle.and_handed.specs.Handed.{HasAll, SolvesAll}
use Rattle.and_store.specs.Passes.{PassSeen}
use Rattle.and_handed.specs.declared.told.Reduced.{Reduced}
use Rattle.and_handed.specs.declared.told.Ran.{Ran}
use Rattle.and_handed.specs.declared.told.HandedOn.{HandedOn}

-- One of these reductions took the frame at the base, for the clause.
pub record HasMade (made : List Reduced) (base : ℕ) (clause : ClauseNo) : Type 0 where
  pub one : Reduced
  pub among : Contains made one
  pub node : one.reduction.node ≡ base
  pub clause_is : one.reduction.clause ≡ clause

-- The goal's frame was there at the opening, or one of the reductions took it.
abbrev pub MayRun : (opening : ℕ) → List Reduced → Goal → Type 0
MayRun opening made goal = (goal.base < opening) ⊎ HasMade made goal.base goal.clause

-- Where so much of the journal is seen, the node in the frame at the base stands for this ground term.
pub record IsKnownTerm (P : NamedProgram) (first : List Ref) (journal : List JournalEntry) (base node : ℕ)
    (t : Term) : Type 0 where
  pub ground : is_ground t ≡ true
  pub term : (w : Words) → HasAll w first journal → (u : Substitution) → SolvesAll P w first journal u
      → apply u (placed base (node_term P.skeleton.nodes node)) ≡ t

-- It stands for a term with this value.
abbrev pub HasNumber : NamedProgram → (first : List Ref) → List JournalEntry → (base node : ℕ) → ℤ → Type 0
HasNumber P first journal base node z = (t : Term) × IsKnownTerm P first journal base node t × (value t ≡ Some z)

-- Both sides of a comparison have values, and it holds of them or not.
pub record IsDecided (P : NamedProgram) (first : List Ref) (journal : List JournalEntry) (base : ℕ)
    (relation : Relation) (left right : ℕ)
    (holds : Bool) : Type 0 where
  pub one : ℤ
  pub other : ℤ
  pub one_is : HasNumber P first journal base left one
  pub other_is : HasNumber P first journal base right other
  pub decides : holds ≡ related relation one other

-- One run more is told: of the goal, when the pass was this. All else stays.
pub record NotesRun (goal : Goal) (judged : PassSeen) (old new : HandedOn) : Type 0 where
  pub one : Ran
  pub goal_is : one.goal ≡ goal
  pub judged_is : one.judged.value ≡ judged
  pub ran : new.ran.items ≡ old.ran.items ++ one ∷ []
  pub made : new.made ≡ old.made
  pub pairs : new.pairs ≡ old.pairs
  pub cause : new.cause ≡ old.cause
