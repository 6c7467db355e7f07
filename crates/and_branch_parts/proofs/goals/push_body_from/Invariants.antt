use Rattle.std.proofs.Common.{◌≤◌, drop, length}
use Rattle.and_program.specs.Loaded.{skeleton_of}
use Rattle.and_branch_parts.specs.Next.{goals_from, HasPut}
use Rattle.and_branch_parts.proofs.BodyStacks.{body_of}
use Rattle.and_branch_parts.proofs.goals.push_body_from.Given as goal

abbrev pub invariant-loop-place : goal.invariant-loop-place
invariant-loop-place l = record {
  within : l.place ≤ length l.items;
  from : l.from ≤ l.place;
  stacked : HasPut (goals_from l.clause.0 l.node l.place (drop l.place (body_of (skeleton_of l._loaded).nodes l.items))) l.initial.goals l.goals;
}

abbrev pub decreases-loop-place : goal.decreases-loop-place
decreases-loop-place l = l.place
