use Rattle.std.proofs.Common.{◌≡◌, ◌++◌, map, take, All}
use Rattle.and_model.specs.Words.{HasWord, word_of}
use Rattle.and_store.proofs.opening.push_words.Given as goal

abbrev pub invariant-loop-cell : goal.invariant-loop-cell
invariant-loop-cell g l = (l.row.items ≡ l.fn.row.items ++ map word_of (take l.cell l.cells)) × All HasWord (take l.cell l.cells)
