use Rattle.std.proofs.Common.{ap}
use Rattle.and_language.specs.Words.{variable_token, integer_token, name_token, quoted_token, open_bracket_token, close_bracket_token, open_list_token}
use Rattle.and_language.specs.Words.{close_list_token, open_brace_token, close_brace_token, comma_token, semicolon_token, bar_token, end_token}
use Rattle.and_lex.specs.Views.{kind_of, token_of}
use Rattle.and_reader.proofs.WordLemmas.{of_kind, quoted_text, small_integer}
use Rattle.and_reader.proofs.words.word_of.Goals as goal

pub quoted_text-requires : goal.quoted_text-requires
quoted_text-requires c = quoted_text c.args.bytes.now c.requires.comes.0 (token_of c.args.token.now) c.requires.comes.1 (ap kind_of c.in-Quoted.is)

pub returns-in-Integer-clause-word : goal.returns-in-Integer-clause-word
returns-in-Integer-clause-word c = of_kind _ _ _ _ _ _ c.in-Integer.is (integer_token c.in-Integer.value)

pub returns-in_ok-quoted_text-in-Quoted-clause-word : goal.returns-in_ok-quoted_text-in-Quoted-clause-word
returns-in_ok-quoted_text-in-Quoted-clause-word c =
    of_kind _ _ _ _ _ _ c.in-Quoted.is (quoted_token c.in_ok-quoted_text-in-Quoted.field-0 c.in_ok-quoted_text-in-Quoted.ensures)

pub returns-in-Variable-clause-word : goal.returns-in-Variable-clause-word
returns-in-Variable-clause-word c = of_kind _ _ _ _ _ _ c.in-Variable.is variable_token

pub returns-in-Name-clause-word : goal.returns-in-Name-clause-word
returns-in-Name-clause-word c = of_kind _ _ _ _ _ _ c.in-Name.is name_token

pub returns-in-Open-clause-word : goal.returns-in-Open-clause-word
returns-in-Open-clause-word c = of_kind _ _ _ _ _ _ c.in-Open.is open_bracket_token

pub returns-in-Close-clause-word : goal.returns-in-Close-clause-word
returns-in-Close-clause-word c = of_kind _ _ _ _ _ _ c.in-Close.is close_bracket_token

pub returns-in-OpenList-clause-word : goal.returns-in-OpenList-clause-word
returns-in-OpenList-clause-word c = of_kind _ _ _ _ _ _ c.in-OpenList.is open_list_token

pub returns-in-CloseList-clause-word : goal.returns-in-CloseList-clause-word
returns-in-CloseList-clause-word c = of_kind _ _ _ _ _ _ c.in-CloseList.is close_list_token

pub returns-in-Comma-clause-word : goal.returns-in-Comma-clause-word
returns-in-Comma-clause-word c = of_kind _ _ _ _ _ _ c.in-Comma.is comma_token

pub returns-in-OpenBrace-clause-word : goal.returns-in-OpenBrace-clause-word
returns-in-OpenBrace-clause-word c = of_kind _ _ _ _ _ _ c.in-OpenBrace.is open_brace_token

pub returns-in-CloseBrace-clause-word : goal.returns-in-CloseBrace-clause-word
returns-in-CloseBrace-clause-word c = of_kind _ _ _ _ _ _ c.in-CloseBrace.is close_brace_token

pub returns-in-Semicolon-clause-word : goal.returns-in-Semicolon-clause-word
returns-in-Semicolon-clause-word c = of_kind _ _ _ _ _ _ c.in-Semicolon.is semicolon_token

pub returns-in-Bar-clause-word : goal.returns-in-Bar-clause-word
returns-in-Bar-clause-word c = of_kind _ _ _ _ _ _ c.in-Bar.is bar_token

pub returns-in-End-clause-word : goal.returns-in-End-clause-word
returns-in-End-clause-word c = of_kind _ _ _ _ _ _ c.in-End.is end_token

pub returns-in-Integer-clause-fits : goal.returns-in-Integer-clause-fits
returns-in-Integer-clause-fits c =
    small_integer c.args.bytes.now c.requires.comes.0 (token_of c.args.token.now) c.in-Integer.value c.requires.comes.1 (ap kind_of c.in-Integer.is)
