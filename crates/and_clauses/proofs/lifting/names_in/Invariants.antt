use Rattle.std.proofs.Common.{◌≡◌, [], get_or, map, take}
use Rattle.and_clauses.proofs.lifting.names_in.Given as goal

abbrev pub invariant-loop-variable : goal.invariant-loop-variable
invariant-loop-variable l = l.names.items ≡ map (λ v. get_or l.written v []) (take l.variable-index l.variables)
