-- What the workers of a phase did, as acts and runs: where each goal stands, and what is left.
use Rattle.std.specs.Prelude.{ℕ, ◌+◌, ◌≤◌, ◌≡◌, true, List, ◌++◌, length, reverse, map, Some, All, Contains}
use Rattle.and_model.specs.Reductions.{Reduction}
use Rattle.and_model.specs.Stands.{Framed}
use Rattle.and_model.specs.Trees.{QueryTree, weight}
use Rattle.and_model.specs.declared.goal.Goal.{Goal}
use Rattle.and_model.specs.declared.reference.Ref.{Ref}
use Rattle.and_cells.specs.Ranges.{NamedProgram}
use Rattle.and_cells.specs.Seen.{word_at}
use Rattle.and_model.specs.declared.goal.Frame.{Frame}
use Rattle.and_branch_laws.specs.Kept.{Kept, goal_of}
use Rattle.and_code.specs.Written.{all_written}
use Rattle.and_handed.specs.declared.told.Cause.TheVariants.{NoCandidate}
use Rattle.and_handed.specs.declared.told.HandedOn.{HandedOn}
use Rattle.and_gathering.specs.Gathering.{IsGathered}
use Rattle.and_gathering.specs.declared.gathering.Gathered.{Gathered}
use Rattle.and_row_check.specs.Places.{IsWhole}
use Rattle.and_worker_laws.specs.Acts
use Rattle.and_worker_laws.specs.Acts.{Act, RunInCells, weight_taken, IsThere, AreTaken, HasFailed}
use Rattle.and_worker_laws.specs.Unfolding.{AreLeftOf}
use Rattle.and_closing_laws.specs.Phases.{HasPhased}
use Rattle.and_closing_laws.specs.Acting.{Ended, all_ended, AreActsOf, AreAllRuns}
use Rattle.and_closing_laws.proofs.Opening.{goals_apart, goals_old}
use Rattle.and_closing_laws.proofs.Taking.{acts_are}
use Rattle.and_closing_laws.proofs.Calls.{are_taken, reductions_are}
use Rattle.and_closing_laws.proofs.Running.{runs_are}
use Rattle.and_closing_laws.proofs.Leaving

-- Structure P first row goals used tolds g h: the acts and the runs of a phase that opened with these goals and was used so far.
pub record Structure (P : NamedProgram) (first row : List Ref) (goals : List Goal) (used : ℕ) (tolds : List HandedOn) (g : Gathered)
    (h : HasPhased P first row tolds) : Type 0 where
  pub acts : List Act
  pub runs : List RunInCells
  pub are_acts : AreActsOf P (word_at row) (all_ended tolds h.passes) (reverse h.journal) acts
  pub are_runs : AreAllRuns P first (all_ended tolds h.passes) runs
  pub taken : AreTaken P.program goals used acts
  pub reductions : Acts.reductions acts ≡ all_written g.made
  pub ends : used + weight_taken P.program acts ≡ g.end
  pub runs_there : (front before : List Act) (r : RunInCells) → acts ≡ front ++ before → Contains runs r → r.at ≡ length before
      → IsThere P.program goals before r.goal
  pub in_time : All (λ (r : RunInCells). r.at ≤ length acts) runs
  pub stuck_there : (who : Ended) (goal : Goal) → Contains (all_ended tolds h.passes) who → who.0.cause ≡ Some (NoCandidate goal)
      → IsThere P.program goals acts goal
  pub left : AreLeftOf P.program goals acts runs g.goals.items
  pub failed : g.failed ≡ true → HasFailed acts

-- Each phase of a branch has such a structure.
pub structure : (P : NamedProgram) (rs : List Reduction) (first row : List Ref) (kept : List Framed) (t : QueryTree P.program) (tolds : List HandedOn)
    (limit : ℕ) (g : Gathered) (frames : List Frame) → Kept P rs first kept t → (h : HasPhased P first row tolds)
    → IsGathered P.program (map goal_of kept) (weight t) limit tolds g → IsWhole P frames row
    → Structure P first row (map goal_of kept) (weight t) tolds g h
structure P rs first row kept t tolds limit g frames k h q whole =
    let goals : List Goal = map goal_of kept in
    let acts = acts_are P first row tolds h q.unspoilt frames whole in
    let runs = runs_are P first row tolds h q.unspoilt in
    let long : length first ≡ weight t = k.has.long in
    let made = reductions_are P first row tolds h goals (weight t) limit g q long acts.0 acts.1 in
    let apart = goals_apart P rs first kept t k in
    let old = goals_old P rs first kept t k in
    record {
      acts = acts.0;
      runs = runs.0;
      are_acts = acts.1;
      are_runs = runs.1;
      taken = are_taken P first row tolds h goals (weight t) limit g q long acts.0 acts.1 apart old;
      reductions = made.0;
      ends = made.1;
      runs_there = Leaving.runs_there P first row tolds h goals (weight t) limit g q long acts.0 acts.1 runs.0 runs.1;
      in_time = Leaving.in_time P first row tolds h goals (weight t) limit g q long acts.0 acts.1 runs.0 runs.1;
      stuck_there = Leaving.stuck_there P first row tolds h goals (weight t) limit g q long acts.0 acts.1;
      left = Leaving.are_left P first row tolds h goals (weight t) limit g q long acts.0 acts.1 apart old runs.0 runs.1;
      failed = Leaving.has_failed P first row tolds h goals (weight t) limit g q long acts.0 acts.1;
    }
