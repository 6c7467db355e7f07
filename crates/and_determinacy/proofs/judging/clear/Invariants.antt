use Rattle.std.proofs.Common.{length}
use Rattle.and_determinacy.proofs.judging.clear.Given as goal

abbrev pub decreases-loop : goal.decreases-loop
decreases-loop l = length l.list
