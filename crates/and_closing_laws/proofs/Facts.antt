-- What each worker of a phase knows of its own acts, and what they leave in the row.
use Rattle.std.specs.Prelude.{ℕ, ◌≡◌, false, List, ◌∷◌, ◌++◌, length, map, Contains}
use Rattle.and_model.specs.Closure.{Known}
use Rattle.and_model.specs.Programs.{arithmetic}
use Rattle.and_model.specs.Trees.{QueryTree, weight}
use Rattle.and_model.specs.Stands.{Framed}
use Rattle.and_model.specs.declared.goal as declared
use Rattle.and_model.specs.declared.reference.Ref.{Ref}
use Rattle.and_cells.specs.Ranges.{NamedProgram}
use Rattle.and_cells.specs.Seen.{word_at}
use Rattle.and_cells.specs.Meaning.{equations_of}
use Rattle.and_unify.specs.Pairs.{equations_of_pairs}
use Rattle.and_code.specs.Written.{all_written}
use Rattle.and_branch_laws.specs.OwnVariables.{OwnVariables}
use Rattle.and_branch_laws.specs.Kept.{Kept, goal_of, item_at}
use Rattle.and_worker_laws.specs.Acts.{Act, RunInCells, arithmetic_at}
use Rattle.and_worker_laws.specs.Facts.{Fact, known_by}
use Rattle.and_worker_laws.specs.Leavings.{IsLeftIn}
use Rattle.and_handed.specs.declared.told.HandedOn.{HandedOn}
use Rattle.and_gathering.specs.declared.gathering.Gathered.{Gathered}
use Rattle.and_gathering.specs.Gathering.{IsGathered}
use Rattle.and_row_check.specs.Places.{all_frames, IsWhole, ArePairsWhole}
use Rattle.and_closing_laws.specs.Phases.{HasPhased}
use Rattle.and_closing_laws.specs.Acting.{all_ended}
use Rattle.and_closing_laws.proofs.Cutting.{by_then, next}
use Rattle.and_closing_laws.proofs.Knowing.{knows, knows_run}
use Rattle.and_closing_laws.proofs.Left.{is_left}
use Rattle.and_closing_laws.proofs.Making.{phase}
use Rattle.and_closing_laws.proofs.Structure.{Structure}

module _ (P : NamedProgram) (own : OwnVariables P) (old : List declared.Reduction.Reduction) (first row : List Ref) (kept : List Framed)
    (t : QueryTree P.program) (tolds : List HandedOn) (limit : ℕ) (g : Gathered) (k : Kept P (all_written old) first kept t)
    (h : HasPhased P first row tolds) (gathered : IsGathered P.program (map goal_of kept) (weight t) limit tolds g) (long : length row ≡ g.end)
    (whole : IsWhole P (all_frames (old ++ g.made)) row) (s : Structure P first row (map goal_of kept) (weight t) tolds g h) where
  pub facts : (front before : List Act) (a : Act) → s.acts ≡ front ++ a ∷ before
      → Fact P (map goal_of kept) (equations_of P first) s.runs s.acts before a
  facts front before a is =
      knows P own (map goal_of kept) first row h.journal h.about.words (all_ended tolds h.passes) s.acts s.runs
      (phase P old first row kept t tolds limit g k h gathered whole s) before a
      (next P (word_at row) (all_ended tolds h.passes) h.journal s.acts front before a s.are_acts is)

  pub known : (front before : List Act) (r : RunInCells) → s.acts ≡ front ++ before → Contains s.runs r → r.at ≡ length before
      → (item_at P.program r.goal ≡ arithmetic r.what) × Known (known_by (equations_of P first) before) (arithmetic_at r.goal.base r.what) r.terms
  known front before r is among at =
      knows_run P own (map goal_of kept) first row h.journal h.about.words (all_ended tolds h.passes) s.acts s.runs
      (phase P old first row kept t tolds limit g k h gathered whole s) before r
      (by_then P (word_at row) (all_ended tolds h.passes) h.journal s.acts front before s.are_acts is) among at

  pub left_in : g.failed ≡ false → ArePairsWhole P (all_frames (old ++ g.made)) row g.pairs
      → IsLeftIn P (all_written old ++ all_written g.made) (weight t) (equations_of P first) s.acts s.runs row
      (equations_of_pairs P (word_at row) g.pairs)
  left_in lives pairs = is_left P old first row kept t tolds limit g k h gathered whole s long lives pairs
