use Rattle.std.proofs.Common.{◌≡◌, List, drop}
use Rattle.and_model.specs.Programs.{Clause}
use Rattle.and_program.specs.Predicates.{Finds}
use Rattle.and_judging.specs.Unknown.{first_called}
use Rattle.and_judging.proofs.unknown.first_unknown_call.Given as goal

abbrev pub invariant-loop-call : goal.invariant-loop-call
invariant-loop-call l = (cs : List Clause) → Finds l.found cs → first_called cs (drop l.call-index l.calls) ≡ first_called cs l.calls
