use Rattle.std.proofs.Common.{◌≡◌, ◌++◌, drop, cond}
use Rattle.and_lex.specs.Quoting.{text_between, text_behind_escape}
use Rattle.and_lex.proofs.quotes.quoted_text.Given as goal

abbrev pub invariant-loop-byte : goal.invariant-loop-byte
invariant-loop-byte l =
    l.text ++ cond l.is_escaped (text_behind_escape (drop l.byte-index l.byte-items)) (text_between (drop l.byte-index l.byte-items))
    ≡ text_between l.byte-items
