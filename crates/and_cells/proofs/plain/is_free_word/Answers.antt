use Rattle.std.proofs.Common.{rules}
use Rattle.and_cells.proofs.PlainRows.{free_where_zero}
use Rattle.and_cells.proofs.plain.is_free_word.Goals as goal

pub returns : goal.returns
returns c = let both = free_where_zero c.args.word c.requires.1 in search (rules, both)
