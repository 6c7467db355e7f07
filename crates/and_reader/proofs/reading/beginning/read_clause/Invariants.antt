use Rattle.std.proofs.Common.{◌-◌, length}
use Rattle.and_lex.specs.Views.{token_of}
use Rattle.and_reader.proofs.Alone.{IsWithin}
use Rattle.and_reader.proofs.reading.beginning.read_clause.Given as goal

abbrev pub invariant-reading : goal.invariant-reading
invariant-reading l = IsWithin l.bytes (token_of l.fn.first) l.begun l.lexer l.token

abbrev pub decreases-reading : goal.decreases-reading
decreases-reading l = length l.bytes - l.token.end
