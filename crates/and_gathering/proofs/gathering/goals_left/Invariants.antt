use Rattle.and_program.specs.Loaded.{program_of}
use Rattle.and_gathering.specs.Gathering.{unmet}
use Rattle.and_gathering.proofs.Walking.{Walking, walk_left}
use Rattle.and_gathering.proofs.gathering.goals_left.Given as goal

abbrev pub invariant-loop-goal : goal.invariant-loop-goal
invariant-loop-goal l = Walking (program_of l.loaded) l.goals (unmet l.fn.links) l.walk

abbrev pub decreases-loop-goal : goal.decreases-loop-goal
decreases-loop-goal l = walk_left l.walk
