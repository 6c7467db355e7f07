use Rattle.std.proofs.Common.{◌≡◌, drop}
use Rattle.and_cells.specs.Rows.{all_set}
use Rattle.and_cells.proofs.plain.set_free.Given as goal

-- what is left to be done makes of the words what is due
abbrev pub invariant-loop-cell : goal.invariant-loop-cell
invariant-loop-cell l = all_set 0 (drop l.cell-index l.cells) l.words.items ≡ all_set 0 l.cells l.initial.words.items
