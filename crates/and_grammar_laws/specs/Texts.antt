-- Texts that hold nothing but grammar rules of atoms and one query for a word.
use Rattle.std.specs.Prelude.{ℕ, ◌≡◌, List, [], ◌∷◌, ◌++◌, map}
use Rattle.and_model.specs.Lines.{Bytes}
use Rattle.and_source.specs.Source.{SourceProgram}
use Rattle.and_language.specs.Tokens.{line_at}
use Rattle.and_language.specs.Grammar.{Sort, Statement}
use Rattle.and_language.specs.Refusals.{Reads}
use Rattle.and_grammar_laws.specs.Derivations.{Rule, IsNumber}
use Rattle.and_grammar_laws.specs.Grammars.{Line, AreRules, asks}

-- a rule of a text, with the line of its first token
abbrev pub line_of : Bytes → Statement → Line
line_of bytes s = record { rule = s.term; line = line_at bytes s.place }

abbrev pub lines_of : Bytes → List Statement → List Line
lines_of bytes ss = map (line_of bytes) ss

abbrev pub AreGrammarRules : List Statement → Type 0
AreGrammarRules [] = Unit {0}
AreGrammarRules (s ∷ ss) = (s.sort ≡ Sort.grammar_rule) × AreGrammarRules ss

-- The bytes read as the program. They hold the rules of the grammar and a query for a word from the head of one of
-- them.
pub record Holds (bytes : Bytes) (P : SourceProgram) (grammar : List Rule) (n : Bytes)
    (word : List Bytes) : Type 0 where
  pub reads : Reads bytes P
  pub earlier : List Statement
  pub query : Statement
  pub later : List Statement
  pub statements : reads.taken.statements ≡ earlier ++ query ∷ later
  pub sorts : AreGrammarRules (earlier ++ later)
  pub rules : AreRules (lines_of bytes (earlier ++ later)) grammar
  pub asking : (query.sort ≡ Sort.query) × (query.term ≡ asks n word)
  pub headed : (c : ℕ) × (r : Rule) × IsNumber c grammar r × (r.head ≡ n)
