use Rattle.std.proofs.Common.{◌≡◌, ◌++◌, drop}
use Rattle.and_answers.proofs.comparing.push_behind.Given as goal

abbrev pub invariant-loop-place : goal.invariant-loop-place
invariant-loop-place l = l.short ++ drop l.place l.code ≡ l.fn.short ++ drop l.from l.code
