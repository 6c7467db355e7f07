-- What a worker of a phase hands on, in the terms of the cells (this project's own).
-- It speaks of the journal as the worker's pass has seen it, so nothing of it is lost when others' entries come behind.
use Rattle.std.specs.Prelude.{ℕ, ◌+◌, ◌≡◌, ◌<◌, ◌≤◌, ◌⊎◌, true, false, List, [], ◌∷◌, ◌++◌, map, length, Option, Some}
use Rattle.std.specs.Prelude.{None, All, Contains}
use Rattle.and_model.specs.Terms.{Terms, are_ground, Substitution, apply_all}
use Rattle.and_model.specs.Solutions.{Equation, Solves}
use Rattle.and_model.specs.Programs.{Program, arithmetic, Arithmetic, is, compare, clause_at, clause_weight}
use Rattle.and_model.specs.Closure.{added, needs}
use Rattle.and_model.specs.Store.{JournalEntry, Setting, Frame, Known, sets, gives, fails, settings_of, set_in}
use Rattle.and_model.specs.Store.{is_half, entries_by}
use Rattle.and_model.specs.declared.reference.Ref.{Ref}
use Rattle.and_model.specs.declared.reference.Ref.TheVariants.{Cell}
use Rattle.and_cells.specs.Ranges.{NamedProgram}
use Rattle.and_cells.specs.Meaning.{Words, equations_between}
use Rattle.and_unify.specs.declared.pairs.Pair.{Pair}
use Rattle.and_unify.specs.Pairs.{AreInRange, AreWritten, equations_of_pairs}
use Rattle.and_branch_laws.specs.Kept.{item_at}
use Rattle.and_branch_laws.specs.Reducing.{reduction_in_cells}
use Rattle.and_branch_laws.specs.Variables.{placed, cells_from}
use Rattle.and_clause_index.specs.Selecting.{CanBeTried, AreLeft}
use Rattle.and_store.specs.Passes.{PassSeen}
use Rattle.and_store.specs.Worked.{seen_by, shown}
use Rattle.and_store_laws.specs.Steps.{entry}
use Rattle.and_handed.specs.declared.told.Reduced.{Reduced}
use Rattle.and_handed.specs.declared.told.Ran.{Ran}
use Rattle.and_handed.specs.declared.told.HandedOn.{HandedOn}
use Rattle.and_handed.specs.declared.told.Cause.{Cause}
use Rattle.and_handed.specs.declared.told.Cause.TheVariants.{NoCandidate, NoSolution}

-- ---- What the journal says of the cells

-- the settings of the row that a store began with, and then those of a journal
abbrev pub settings_from : (first : List Ref) → List JournalEntry → List Setting
settings_from first journal = set_in first ++ settings_of journal

-- these words have them all
abbrev pub HasAll : Words → (first : List Ref) → List JournalEntry → Type 0
HasAll w first journal = (s : Setting) → Contains (settings_from first journal) s → w s.place ≡ s.value

-- each cell that they set, but to no half, is what it is set to
abbrev pub SolvesAll : NamedProgram → Words → (first : List Ref) → List JournalEntry → Substitution → Type 0
SolvesAll P w first journal t =
    (s : Setting) → Contains (settings_from first journal) s → is_half s.value ≡ false
    → Solves t (equations_between P w (Cell s.place) s.value)

-- ---- What a worker asked of the cells

-- what a reduction asks: that the call is the head, and what the body says
abbrev pub asked_by : Program → Reduced → List Equation
asked_by P m = reduction_in_cells P m.goal m.reduction.clause.0 m.reduction.node

-- arithmetic of a clause, in the cells of the frame at the base
abbrev pub arithmetic_at : (base : ℕ) → Arithmetic → Arithmetic
arithmetic_at base (is l r) = is (placed base l) (placed base r)
arithmetic_at base (compare r a b) = compare r (placed base a) (placed base b)

-- The goal is arithmetic, and where its pass had seen so much, these ground terms stood for those that it waits for.
pub record HasTerms (P : NamedProgram) (first : List Ref) (r : Ran) (what : Arithmetic) (ts : Terms) : Type 0 where
  pub is_arithmetic : item_at P.program r.goal ≡ arithmetic what
  pub ground : are_ground ts ≡ true
  pub terms : (w : Words) → HasAll w first r.judged.value.pass.seen → (t : Substitution)
      → SolvesAll P w first r.judged.value.pass.seen t
      → apply_all t (apply_all (cells_from r.goal.base) (needs what)) ≡ ts

-- Some such terms stood for them.
abbrev pub IsKnownRun : NamedProgram → (first : List Ref) → Ran → Type 0
IsKnownRun P first r = (what : Arithmetic) × (ts : Terms) × HasTerms P first r what ts

-- what it then asks
abbrev pub SolvesRun : NamedProgram → (first : List Ref) → Substitution → Ran → Type 0
SolvesRun P first t r = (what : Arithmetic) (ts : Terms) → HasTerms P first r what ts
    → Solves t (added (arithmetic_at r.goal.base what) ts)

-- what the worker asked by the time when the journal was so long
pub record SolvesAsked (P : NamedProgram) (first : List Ref) (told : HandedOn) (long : ℕ)
    (t : Substitution) : Type 0 where
  pub made : (m : Reduced) → Contains told.made.items m → length m.judged.value.pass.seen ≤ long
      → Solves t (asked_by P.program m)
  pub ran : (r : Ran) → Contains told.ran.items r → length r.judged.value.pass.seen ≤ long → SolvesRun P first t r

-- ---- What a worker hands on

-- No cell of a variable, in the frame of the clause at the base, is a word of a pair.
abbrev pub IsWholeFrame : NamedProgram → Words → (clause base : ℕ) → Type 0
IsWholeFrame P w c base = (k : ℕ) → k < (clause_at P.program c).variables → is_half (w (base + 1 + k)) ≡ false

-- Words that have all that a worker had seen, and in which the frames of what it took and made are whole.
pub record FitsSeen (P : NamedProgram) (told : HandedOn) (p : PassSeen) (w : Words) : Type 0 where
  pub has : HasAll w p.store.about.first p.pass.seen
  pub made : (m : Reduced) → Contains told.made.items m
      → IsWholeFrame P w m.goal.clause.0 m.goal.base × IsWholeFrame P w m.reduction.clause.0 m.reduction.node
  pub ran : (r : Ran) → Contains told.ran.items r → IsWholeFrame P w r.goal.clause.0 r.goal.base

abbrev pub frame_of : Program → Reduced → Frame
frame_of P m = record { base = m.reduction.node; weight = clause_weight (clause_at P m.reduction.clause.0) }

-- A reduction: the call was judged before its frame was taken, and no clause but the one chosen was left of it.
pub record IsSole (P : NamedProgram) (p : PassSeen) (m : Reduced) : Type 0 where
  pub can : CanBeTried P p.store.about.words m.goal
  pub parent : m.reduction.parent ≡ m.goal.node
  pub item : m.reduction.item ≡ m.goal.item
  pub sole : AreLeft P (shown p.store.about.words m.judged.value.pass) m.goal (m.reduction.clause ∷ [])
  -- All that was known then was set at the opening, or in what had been seen.
  pub knows : All (λ (k : Known). Contains (settings_from p.store.about.first m.judged.value.pass.seen) k.setting)
      m.judged.value.pass.known
  pub since : List JournalEntry
  pub of_others : entries_by p.pass since ≡ []
  pub after : List JournalEntry
  pub taken : p.pass.seen ≡ (m.judged.value.pass.seen ++ since)
      ++ entry p.pass.number (gives (frame_of P.program m)) ∷ after

-- The frame of the goal is one that the worker had taken by then.
pub record HasFrame (P : NamedProgram) (told : HandedOn) (p : PassSeen) (r : Ran) : Type 0 where
  pub made : Reduced
  pub is : Contains told.made.items made
  pub base : made.reduction.node ≡ r.goal.base
  pub clause : made.reduction.clause ≡ r.goal.clause
  pub before : Contains r.judged.value.pass.seen (entry p.pass.number (gives (frame_of P.program made)))

-- Arithmetic: its terms were known by then; and its frame was there at the opening, or is one of those reductions.
pub record WasRun (P : NamedProgram) (first : List Ref) (told : HandedOn) (p : PassSeen) (r : Ran) : Type 0 where
  pub placed : (r.goal.base < length first) ⊎ HasFrame P told p r
  pub known : IsKnownRun P first r
  pub after : List JournalEntry
  pub seen : p.pass.seen ≡ r.judged.value.pass.seen ++ after

-- A setting of the worker's own follows from those before it and from what the worker had asked by then.
abbrev pub SettingsFollow : NamedProgram → HandedOn → PassSeen → Type 0
SettingsFollow P told p =
    (before after : List JournalEntry) (s : Setting) → p.pass.seen ≡ before ++ entry p.pass.number (sets s) ∷ after
    → is_half s.value ≡ false
    → (w : Words) → FitsSeen P told p w → (t : Substitution) → SolvesAll P w p.store.about.first before t
    → SolvesAsked P p.store.about.first told (length before) t → Solves t (equations_between P w (Cell s.place) s.value)

-- The pairs follow from what was asked, and all that was asked follows from them.
pub record PairsLeft (P : NamedProgram) (told : HandedOn) (pairs : List Pair) (p : PassSeen) : Type 0 where
  pub in_range : AreInRange P p.store.about.words pairs
  pub written : AreWritten (seen_by p) pairs
  pub asked : (w : Words) → FitsSeen P told p w → (t : Substitution) → SolvesAll P w p.store.about.first p.pass.seen t
      → SolvesAsked P p.store.about.first told (length p.pass.seen) t → Solves t (equations_of_pairs P w pairs)
  pub all : (w : Words) → FitsSeen P told p w → (t : Substitution) → SolvesAll P w p.store.about.first p.pass.seen t
      → Solves t (equations_of_pairs P w pairs) → SolvesAsked P p.store.about.first told (length p.pass.seen) t

-- Why the tree is dead: no clause is left of a call, or what was asked has no solution with what is set.
abbrev pub Kills : NamedProgram → HandedOn → PassSeen → Cause → Type 0
Kills P told p (NoCandidate goal) = CanBeTried P p.store.about.words goal × AreLeft P (seen_by p) goal []
Kills P told p NoSolution =
    (w : Words) → FitsSeen P told p w → (t : Substitution) → SolvesAll P w p.store.about.first p.pass.seen t
    → SolvesAsked P p.store.about.first told (length p.pass.seen) t → ⊥

-- What holds of the frames that a worker took, of its reductions, of the arithmetic that it ran, and of its settings.
pub record HasActed (P : NamedProgram) (told : HandedOn) (p : PassSeen) : Type 0 where
  pub frames : p.pass.frames ≡ map (frame_of P.program) told.made.items
  pub made : All (IsSole P p) told.made.items
  pub ran : All (WasRun P p.store.about.first told p) told.ran.items
  pub settings : SettingsFollow P told p

-- What holds of all that a worker did, where these pairs are left to do.
pub record HasDone (P : NamedProgram) (told : HandedOn) (pairs : List Pair) (p : PassSeen) : Type 0 where
  pub acted : HasActed P told p
  pub open acted use *
  pub pairs_left : PairsLeft P told pairs p

-- Where a worker knows why the tree is dead it called `fail`, once and last, and then no pair need be left; else it
-- never did.
abbrev pub EndsBy : NamedProgram → HandedOn → PassSeen → Option Cause → Type 0
EndsBy P told p None = (p.pass.fails ≡ []) × HasDone P told told.pairs p
EndsBy P told p (Some cause) =
    Kills P told p cause × (p.pass.fails ≡ tt ∷ [])
    × ((before : List JournalEntry) × (p.pass.seen ≡ before ++ entry p.pass.number fails ∷ []))
    × HasActed P told p

-- HandsOn P told p: what the worker with this pass hands on, unless it came upon what should not be.
abbrev pub HandsOn : NamedProgram → HandedOn → PassSeen → Type 0
HandsOn P told p = told.is_spoilt ≡ false → EndsBy P told p told.cause
