use Rattle.std.proofs.Common.{◌≡◌, ◌++◌, map, take, drop}
use Rattle.and_first_argument.specs.Lists.{without_last}
use Rattle.and_first_argument.proofs.lists.pop_each.Given as goal

abbrev pub invariant-loop-row : goal.invariant-loop-row
invariant-loop-row l = l.rows ≡ map without_last (take l.row-index l.fn.rows) ++ drop l.row-index l.fn.rows
