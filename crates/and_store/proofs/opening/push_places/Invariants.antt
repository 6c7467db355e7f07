use Rattle.std.proofs.Common.{◌≡◌, ◌++◌, map, take}
use Rattle.and_store.specs.Kept.{first_place_word}
use Rattle.and_store.proofs.opening.push_places.Given as goal

abbrev pub invariant-loop-cell : goal.invariant-loop-cell
invariant-loop-cell g l = l.row.items ≡ l.fn.row.items ++ map first_place_word (take l.cell l.cells)
