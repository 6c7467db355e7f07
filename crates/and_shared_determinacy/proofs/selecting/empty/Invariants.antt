use Rattle.std.proofs.Common.{length}
use Rattle.and_shared_determinacy.proofs.selecting.empty.Given as goal

abbrev pub decreases-loop : goal.decreases-loop
decreases-loop l = length l.list
