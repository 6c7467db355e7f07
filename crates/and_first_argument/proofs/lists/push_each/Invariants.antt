use Rattle.std.proofs.Common.{◌≡◌, [], ◌∷◌, ◌++◌, map, take, drop}
use Rattle.and_first_argument.proofs.lists.push_each.Given as goal

abbrev pub invariant-loop-place : goal.invariant-loop-place
invariant-loop-place l = l.rows ≡ map (λ list. list ++ l.clause ∷ []) (take l.place l.fn.rows) ++ drop l.place l.fn.rows
