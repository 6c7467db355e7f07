use Rattle.std.proofs.Common.{◌≡◌, ◌-◌, length, drop}
use Rattle.and_lex.specs.Quoting.{quote_end}
use Rattle.and_lex.proofs.quotes.find_quote_end.Given as goal

abbrev pub invariant-loop-index : goal.invariant-loop-index
invariant-loop-index l = quote_end l.index (drop l.index l.bytes) ≡ quote_end 0 l.bytes

abbrev pub decreases-loop-index : goal.decreases-loop-index
decreases-loop-index l = length l.initial.bytes - l.index
