-- What comes next in a text, as a minus sees it.
use Rattle.std.specs.Prelude.{◌≤◌, length, Option, Some, None, Result, Ok, Err}
use Rattle.and_model.specs.Lines.{Bytes}
use Rattle.and_language.specs.Words
use Rattle.and_lex.specs.declared.tokens.Token.{Token}
use Rattle.and_lex.specs.declared.tokens.LexFault.{LexFault}
use Rattle.and_reader.specs.declared.words.Before.{Before}
use Rattle.and_reader.specs.Views.{before_of}

-- what a minus stands before, and nothing for a bracket right behind it
abbrev pub seen_of : Option Before → Words.Before
seen_of None = Words.bracket
seen_of (Some before) = before_of before

-- the token, if one comes next, stands within the bytes
abbrev pub IsWithin : Bytes → Result (Option Token) LexFault → Type 0
IsWithin bytes (Ok None) = Unit {0}
IsWithin bytes (Ok (Some t)) = (t.start ≤ t.end) × (t.end ≤ length bytes)
IsWithin bytes (Err fault) = Unit {0}
