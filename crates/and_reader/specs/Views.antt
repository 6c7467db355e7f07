-- What words, names, necks and sorts stand for.
use Rattle.and_model.specs.Lines.{Bytes}
use Rattle.and_language.specs.Words
use Rattle.and_language.specs.Grammar
use Rattle.and_reader.specs.declared.state.Neck.{Neck}
use Rattle.and_reader.specs.declared.state.Neck.TheVariants as necks
use Rattle.and_reader.specs.declared.state.Sort.{Sort}
use Rattle.and_reader.specs.declared.state.Sort.TheVariants as sorts
use Rattle.and_reader.specs.declared.words.Name.{Name}
use Rattle.and_reader.specs.declared.words.Name.TheVariants as names
use Rattle.and_reader.specs.declared.words.Before.{Before}
use Rattle.and_reader.specs.declared.words.Before.TheVariants as before
use Rattle.and_reader.specs.declared.words.Word.{Word}
use Rattle.and_reader.specs.declared.words.Word.TheVariants as words

-- the bytes that a name stands for
abbrev pub name_of : Name → Bytes
name_of (names.Written c) = c.now
name_of (names.Quoted t) = t

abbrev pub before_of : Before → Words.Before
before_of before.Integer = Words.integer
before_of before.Stop = Words.stop
before_of before.Operand = Words.operand

abbrev pub neck_of : Neck → Grammar.Neck
neck_of necks.Turnstile = Grammar.turnstile
neck_of necks.Arrow = Grammar.arrow

abbrev pub neck_in : Grammar.Neck → Neck
neck_in Grammar.turnstile = necks.Turnstile
neck_in Grammar.arrow = necks.Arrow

abbrev pub sort_of : Sort → Grammar.Sort
sort_of sorts.Clause = Grammar.Sort.clause
sort_of sorts.Query = Grammar.Sort.query
sort_of sorts.GrammarRule = Grammar.Sort.grammar_rule

abbrev pub word_of : Word → Words.Word
word_of (words.Variable x) = Words.variable x.now
word_of (words.Integer z) = Words.integer z
word_of (words.Name c) = Words.name c.now
word_of (words.Quoted t) = Words.quoted t
word_of (words.Minus b) = Words.minus (before_of b)
word_of (words.OpenBracket behind) = Words.open_bracket behind
word_of words.CloseBracket = Words.close_bracket
word_of words.OpenList = Words.open_list
word_of words.CloseList = Words.close_list
word_of words.OpenBrace = Words.open_brace
word_of words.CloseBrace = Words.close_brace
word_of words.Comma = Words.comma
word_of words.Semicolon = Words.semicolon
word_of words.Bar = Words.bar
word_of words.End = Words.end
