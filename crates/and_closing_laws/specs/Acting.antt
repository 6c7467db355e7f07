-- The journal of a store as acts, and what its workers ran (this project's own).
use Rattle.std.specs.Prelude.{ℕ, pos, ◌-◌, ◌≡◌, ◌⊎◌, true, false, List, [], ◌∷◌, ◌++◌, length, Option, Some, None}
use Rattle.std.specs.Prelude.{Contains}
use Rattle.and_model.specs.Terms.{number}
use Rattle.and_model.specs.Solutions.{Equation}
use Rattle.and_model.specs.Store.{JournalEntry, Setting, Frame, sets, gives, fails, hangs, is_half}
use Rattle.and_model.specs.declared.reference.Ref.{Ref}
use Rattle.and_model.specs.declared.reference.Ref.TheVariants.{Cell}
use Rattle.and_cells.specs.Ranges.{NamedProgram}
use Rattle.and_cells.specs.Meaning.{Words, equations_between}
use Rattle.and_code.specs.Written.{written}
use Rattle.and_store.specs.Passes.{PassSeen}
use Rattle.and_handed.specs.Handed.{HasTerms, frame_of}
use Rattle.and_handed.specs.declared.told.Ran.{Ran}
use Rattle.and_handed.specs.declared.told.Reduced.{Reduced}
use Rattle.and_handed.specs.declared.told.HandedOn.{HandedOn}
use Rattle.and_handed.specs.declared.told.Cause.{Cause}
use Rattle.and_worker_laws.specs.Acts
use Rattle.and_worker_laws.specs.Acts.{Act, RunInCells}

-- a worker that has ended: what it told, and its pass
abbrev pub Ended : Type 0
Ended = HandedOn × PassSeen

-- the workers, by what they told and by their passes
abbrev pub all_ended : List HandedOn → List PassSeen → List Ended
all_ended [] ps = []
all_ended (t ∷ ts) [] = []
all_ended (t ∷ ts) (p ∷ ps) = (t, p) ∷ all_ended ts ps

-- an equation that says nothing
abbrev pub nothing : Equation
nothing = (number (pos 0), number (pos 0))

-- The act is a reduction, by the worker with this number, whose clause has this frame.
pub record IsTaking (P : NamedProgram) (ended : List Ended) (worker : ℕ) (f : Frame) (a : Act) : Type 0 where
  pub who : Ended
  pub one : Contains ended who
  pub number : who.1.pass.number ≡ worker
  pub made : Reduced
  pub among : Contains who.0.made.items made
  pub frame : f ≡ frame_of P.program made
  pub is : a ≡ Acts.takes worker made.goal (written made.reduction)

-- The act is a setting: what is set says what its equation says of the cells, and a word of a pair says nothing.
abbrev pub IsSetting : NamedProgram → Words → (worker : ℕ) → Setting → Act → Type 0
IsSetting P w n s a = ((is_half s.value ≡ true) × (a ≡ Acts.sets n nothing))
    ⊎ ((is_half s.value ≡ false)
    × ((d : Equation) × (equations_between P w (Cell s.place) s.value ≡ d ∷ []) × (a ≡ Acts.sets n d)))

-- The act is the entry of the journal, where the words of the row are these at the end. (That a goal was hung says
-- nothing.)
abbrev pub IsActOf : NamedProgram → Words → List Ended → JournalEntry → Act → Type 0
IsActOf P w ended e a = elim e.made [
  | sets s ↦ IsSetting P w e.pass s a
  | gives f ↦ IsTaking P ended e.pass f a
  | fails ↦ a ≡ Acts.fails e.pass
  | hangs g ↦ a ≡ Acts.sets e.pass nothing
]

-- one by one: of both the newest comes first
abbrev pub AreActsOf : NamedProgram → Words → List Ended → List JournalEntry → List Act → Type 0
AreActsOf P w ended [] [] = Unit {0}
AreActsOf P w ended [] (a ∷ acts) = ⊥
AreActsOf P w ended (e ∷ journal) [] = ⊥
AreActsOf P w ended (e ∷ journal) (a ∷ acts) = IsActOf P w ended e a × AreActsOf P w ended journal acts

-- How much a worker has seen that counts: all, but for its own `fail`, which comes last.
abbrev pub seen_before_fail : (seen : ℕ) → Option Cause → ℕ
seen_before_fail seen None = seen
seen_before_fail seen (Some cause) = seen - 1

abbrev pub lesser : ℕ → ℕ → ℕ
lesser n m = n - (n - m)

-- The run is that of the worker's goal, with the terms that it then had.
pub record IsRunOf (P : NamedProgram) (first : List Ref) (who : Ended) (r : Ran) (x : RunInCells) : Type 0 where
  pub worker : x.worker ≡ who.1.pass.number
  pub goal : x.goal ≡ r.goal
  pub terms : HasTerms P first r x.what x.terms
  pub at : x.at ≡ lesser (length r.judged.value.pass.seen) (seen_before_fail (length who.1.pass.seen) who.0.cause)

-- one by one, those of a worker,
abbrev pub AreRunsOf : NamedProgram → (first : List Ref) → Ended → List Ran → List RunInCells → Type 0
AreRunsOf P first who [] [] = Unit {0}
AreRunsOf P first who [] (x ∷ runs) = ⊥
AreRunsOf P first who (r ∷ ran) [] = ⊥
AreRunsOf P first who (r ∷ ran) (x ∷ runs) = IsRunOf P first who r x × AreRunsOf P first who ran runs

-- and those of all workers, one worker after another
abbrev pub AreAllRuns : NamedProgram → (first : List Ref) → List Ended → List RunInCells → Type 0
AreAllRuns P first [] runs = runs ≡ []
AreAllRuns P first (who ∷ ended) runs =
    (own others : List RunInCells) × (runs ≡ own ++ others) × AreRunsOf P first who who.0.ran.items own
    × AreAllRuns P first ended others
