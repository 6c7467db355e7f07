-- What values of the lexer stand for.
use Rattle.std.specs.Prelude.{ℕ, ◌<◌, ◌≤◌, Option, Some, None, Result, Ok, Err}
use Rattle.and_language.specs.Tokens
use Rattle.and_lex.specs.declared.tokens.Kind.{Kind}
use Rattle.and_lex.specs.declared.tokens.Kind.TheVariants.{Variable, Name, Quoted, Symbol, Integer, Open, Close}
use Rattle.and_lex.specs.declared.tokens.Kind.TheVariants.{OpenList, CloseList, OpenBrace, CloseBrace, Comma}
use Rattle.and_lex.specs.declared.tokens.Kind.TheVariants.{Semicolon, Bar, End}
use Rattle.and_lex.specs.declared.tokens.Token.{Token}
use Rattle.and_lex.specs.declared.tokens.LexFault.{LexFault}
use Rattle.and_lex.specs.declared.tokens.LexFault.TheVariants.{Syntax, NotText, TooWide, NotPure}
use Rattle.and_lex.specs.Scanning.{Found, end_of_text, one_token, one_fault}

abbrev pub kind_of : Kind → Tokens.Kind
kind_of Variable = Tokens.variable
kind_of Name = Tokens.name
kind_of Quoted = Tokens.quoted
kind_of Symbol = Tokens.symbol
kind_of (Integer z) = Tokens.integer z
kind_of Open = Tokens.open_bracket
kind_of Close = Tokens.close_bracket
kind_of OpenList = Tokens.open_list
kind_of CloseList = Tokens.close_list
kind_of OpenBrace = Tokens.open_brace
kind_of CloseBrace = Tokens.close_brace
kind_of Comma = Tokens.comma
kind_of Semicolon = Tokens.semicolon
kind_of Bar = Tokens.bar
kind_of End = Tokens.end_of_clause

abbrev pub token_of : Token → Tokens.Token
token_of t = record { kind = kind_of t.kind; start = t.start; end = t.end; layout_before = t.layout_before }

-- the token has bytes, which stand between the two places
abbrev pub LiesBetween : ℕ → ℕ → Token → Type 0
LiesBetween low high t = (low ≤ t.start) × (t.start < t.end) × (t.end ≤ high)

abbrev pub fault_of : LexFault → Tokens.Fault
fault_of (Syntax p) = Tokens.syntax p
fault_of (NotText p) = Tokens.not_text p
fault_of (TooWide p) = Tokens.too_wide p
fault_of (NotPure p) = Tokens.not_pure p

abbrev pub answer_of : Result (Option Token) LexFault → Tokens.Answer
answer_of (Ok None) = Tokens.no_more
answer_of (Ok (Some t)) = Tokens.one (token_of t)
answer_of (Err f) = Tokens.none_for (fault_of f)

abbrev pub found_of : Result (Option (Kind × ℕ)) LexFault → Found
found_of (Ok None) = end_of_text
found_of (Ok (Some p)) = one_token (kind_of p.0) p.1
found_of (Err f) = one_fault (fault_of f)
