-- The ways in which a round goes over the goals of a branch.
use Rattle.std.specs.Prelude.{◌≡◌, ◌<◌, Bool, true, length, Option}
use Rattle.and_cells.specs.Ranges.{NamedProgram}
use Rattle.and_branch_parts.specs.Branches.{Held}
use Rattle.and_branch_parts.specs.Next.{IsMoved}
use Rattle.and_branch_parts.specs.Rounds.{HasPassedSleepers}
use Rattle.and_branch_parts.specs.declared.finding.HeavyCall.{HeavyCall}
use Rattle.and_branch_parts.specs.declared.ways.Way.{Way}
use Rattle.and_branch_parts.specs.declared.ways.Way.TheVariants.{Onward, Back}

-- The place of work came to the next goal on this way: onward over goals that sleep, or back over goals of which
-- there are fewer before it then.
abbrev pub HasCome : NamedProgram → Way → (old new : Held) → (there : Bool) → Type 0
HasCome P Onward old new there = (there ≡ true) × HasPassedSleepers P old new
HasCome P Back old new there = IsMoved old new × (there ≡ true → length new.left < length old.left)

-- What was seen of a goal was noted on the way onward; on the way back the place of work is before the goal again.
abbrev pub HasNoted : Way → (old new : Held) → (seen more : Option HeavyCall) → Type 0
HasNoted Onward old new seen more = (new ≡ old) × (more ≡ seen)
HasNoted Back old new seen more = IsMoved old new × (length new.left < length old.left)
