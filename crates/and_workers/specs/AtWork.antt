-- A worker between its turns (this project's own).
use Rattle.std.specs.Prelude.{◌≡◌, ◌<◌, ◌++◌, Bool, true, false, List, [], None, All, Contains, Result, Ok, Err}
use Rattle.and_model.specs.Store.{Known}
use Rattle.and_cells.specs.Ranges.{NamedProgram}
use Rattle.and_cells.specs.Meaning.{Words}
use Rattle.and_overlay.specs.Overlaid.{IsKnownFit}
use Rattle.and_workers.specs.Waiting.{Waiting}
use Rattle.and_unify.specs.Pairs.{NameNoHalf}
use Rattle.and_unify.specs.declared.pairs.Pair.{Pair}
use Rattle.and_store.specs.Passes.{PassSeen}
use Rattle.and_store.specs.Worked.{seen_by}
use Rattle.and_handed.specs.Handed.{FitsSeen, HasActed, HasDone, HandsOn, Kills, settings_from}
use Rattle.and_handed.specs.declared.told.Cause.TheVariants.{NoSolution}
use Rattle.and_handed.specs.declared.told.HandedOn.{HandedOn}
use Rattle.and_workers.specs.declared.worker.Turn.{Turn}
use Rattle.and_workers.specs.declared.worker.Turn.TheVariants.{Worked, Idle, Over}

-- IsAtWork P told todo waiting p: a worker that has called no `fail` keeps this of what it did, with these pairs
-- still to do beside those that it has put off, these goals waiting for cells, and this pass.
pub record IsAtWork (P : NamedProgram) (told : HandedOn) (todo : List Pair) (waiting : List Waiting)
    (p : PassSeen) : Type 0 where
  pub done : HasDone P told (told.pairs ++ todo) p
  pub no_fail : p.pass.fails ≡ []
  -- All that its pass knows was set at the opening, or in what it has seen.
  pub known : All (λ (k : Known). Contains (settings_from p.store.about.first p.pass.seen) k.setting) p.pass.known
  pub fit : IsKnownFit P (seen_by p)
  pub waits : All (λ (w : Waiting). w.cell < p.store.about.words) waiting
  pub live : told.cause ≡ None

-- what a turn came to: the worker is at work, or it has ended
abbrev pub IsTurned : {E : Type 0} → NamedProgram → HandedOn → List Waiting → PassSeen → Result Turn E → Type 0
IsTurned P told waiting p (Ok Worked) = IsAtWork P told [] waiting p
IsTurned P told waiting p (Ok Idle) = IsAtWork P told [] waiting p
IsTurned P told waiting p (Ok Over) = HandsOn P told p
IsTurned P told waiting p (Err e) = Unit {0}

-- What it came to that a reduction was noted: its pairs are to do, or nothing solves what it asks.
abbrev pub IsNoted : {E : Type 0} → NamedProgram → HandedOn → (todo : List Pair) → List Waiting → PassSeen
    → Result Bool E → Type 0
IsNoted P told todo waiting p (Ok true) =
    IsAtWork P told todo waiting p × ((w : Words) → FitsSeen P told p w → NameNoHalf P w todo)
IsNoted P told todo waiting p (Ok false) =
    (told.cause ≡ None) × (p.pass.fails ≡ []) × HasActed P told p × Kills P told p NoSolution
IsNoted P told todo waiting p (Err e) = Unit {0}

-- a turn after which a worker can go on, and one after which it can stop
abbrev pub GoesOn : {E : Type 0} → Result Turn E → Type 0
GoesOn (Ok Worked) = Unit {0}
GoesOn (Ok Idle) = Unit {0}
GoesOn (Ok Over) = ⊥
GoesOn (Err e) = ⊥

abbrev pub IsStopped : {E : Type 0} → Result Turn E → Type 0
IsStopped (Ok Worked) = ⊥
IsStopped (Ok Idle) = Unit {0}
IsStopped (Ok Over) = Unit {0}
IsStopped (Err e) = ⊥
