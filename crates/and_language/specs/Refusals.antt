-- What a text is refused for first, and what its program is otherwise (this project's own order).
use Rattle.std.specs.Prelude.{ℕ, ◌<◌, ◌≤◌, ◌≡◌, true, false, List, [], ◌∷◌, ◌++◌, length, Option, Some, None, codes}
use Rattle.and_model.specs.Lines.{Bytes}
use Rattle.and_model.specs.Programs.{Program}
use Rattle.and_source.specs.Source.{SourceClause, SourceProgram}
use Rattle.and_source.specs.Lifted.{lift}
use Rattle.and_syntax.specs.Tables.{What, source, arguments, nesting, Table, empty, clause_fault, query_fault}
use Rattle.and_syntax.specs.Tables.{with_clause, with_query, unknown_of, program_of}
use Rattle.and_syntax.specs.Tables as tables
use Rattle.and_syntax.specs.Written.{Written}
use Rattle.and_translation.specs.Translation.{translated, translation_fault}
use Rattle.and_language.specs.Tokens.{line_at, Answer, no_more, none_for, Token}
use Rattle.and_language.specs.Tokens as tokens
use Rattle.and_language.specs.Words.{Word, Placed, AreWords, variable, integer, name, quoted, minus, open_bracket}
use Rattle.and_language.specs.Words.{close_bracket, open_list, close_list, open_brace, close_brace, comma, semicolon}
use Rattle.and_language.specs.Words.{bar, end}
use Rattle.and_language.specs.Grammar.{Sort, Statement, IsText, CanGoOn}
use Rattle.and_model.specs.declared.limits.TheConstants.{MAX_BYTES}

-- why a text is refused
pub data Cause : Type 0 where
  syntax : Cause
  not_text : Cause
  too_wide : Cause
  too_big : What → Cause
  not_pure : Cause
  redefines : Bytes → ℕ → Cause
  unknown : Bytes → ℕ → Cause
  no_query : Cause
  second_query : Cause

-- a cause and its line
pub record Refusal : Type 0 where
  pub cause : Cause
  pub line : ℕ

abbrev pub at : Bytes → ℕ → Cause → Refusal
at bytes place cause = record { cause = cause; line = line_at bytes place }

-- the cause that a table's fault is
abbrev pub cause_of : tables.Fault → Cause
cause_of tables.second_query = second_query
cause_of tables.not_pure = not_pure
cause_of (tables.redefines c arity) = redefines c arity
cause_of (tables.too_big what) = too_big what

-- where a token's fault stands, and its cause
abbrev pub fault_at : Bytes → tokens.Fault → Refusal
fault_at bytes (tokens.syntax p) = at bytes p syntax
fault_at bytes (tokens.not_text p) = at bytes p not_text
fault_at bytes (tokens.too_wide p) = at bytes p too_wide
fault_at bytes (tokens.not_pure p) = at bytes p not_pure

-- the one fault if there is one, and else the other
abbrev pub first_fault : Option tables.Fault → Option tables.Fault → Option tables.Fault
first_fault None g = g
first_fault (Some f) g = Some f

-- what a grammar rule is refused for: its own fault, or else one of the clause that it stands for
abbrev pub rule_fault : Table → Written → Option tables.Fault
rule_fault T w = first_fault (translation_fault w) (clause_fault T (translated w))

-- What a clause, query or rule is refused for, and the table with it. (With a rule it is that with the rule's clause.)
abbrev pub statement_fault : Table → Statement → Option tables.Fault
statement_fault T s = elim s.sort [
  | Sort.clause ↦ clause_fault T s.term
  | Sort.query ↦ query_fault T s.term
  | Sort.grammar_rule ↦ rule_fault T s.term
]

abbrev pub with_statement : Bytes → Table → Statement → Table
with_statement bytes T s = elim s.sort [
  | Sort.clause ↦ with_clause T s.term (line_at bytes s.place)
  | Sort.query ↦ with_query T s.term (line_at bytes s.place)
  | Sort.grammar_rule ↦ with_clause T (translated s.term) (line_at bytes s.place)
]

-- The clauses, queries and rules are taken one after another by the one table, which becomes the other.
pub data Takes (bytes : Bytes) : Table → List Statement → Table → Type 0 where
  nothing : (T : Table) → Takes bytes T [] T
  more : (T U : Table) (s : Statement) (ss : List Statement) → statement_fault T s ≡ None
      → Takes bytes (with_statement bytes T s) ss U → Takes bytes T (s ∷ ss) U

-- The text begins with these words, and a comes next.
abbrev pub HasWords : Bytes → List Placed → Answer → Type 0
HasWords bytes ws a = (ts : List Token) × tokens.HasTokens bytes a 0 ts × AreWords bytes a ts ws

-- no clause ends among the words
abbrev pub NoneEnds : List Placed → Type 0
NoneEnds [] = Unit {0}
NoneEnds (p ∷ ps) = (p.word ≡ end → ⊥) × NoneEnds ps

-- The words are clauses, queries and rules that were taken, and then the beginning of one.
pub record IsPassed (bytes : Bytes) (ws : List Placed) : Type 0 where
  pub whole : List Placed
  pub begun : List Placed
  pub joined : ws ≡ whole ++ begun
  pub unended : NoneEnds begun
  pub statements : List Statement
  pub spelled : IsText true whole statements
  pub table : Table
  pub taken : Takes bytes empty statements table
  pub goes_on : CanGoOn true ws

-- what a word is too much of, where the grammar without limits has it
abbrev pub limit_of : Word → Cause
limit_of (variable x) = syntax
limit_of (integer z) = too_wide
limit_of (name c) = syntax
limit_of (quoted c) = syntax
limit_of (minus b) = too_big nesting
limit_of (open_bracket b) = too_big nesting
limit_of close_bracket = syntax
limit_of open_list = too_big nesting
limit_of close_list = syntax
limit_of open_brace = too_big nesting
limit_of close_brace = syntax
limit_of comma = too_big arguments
limit_of semicolon = syntax
limit_of bar = syntax
limit_of end = syntax

-- the word w, and no clause begun before it, begins a directive
abbrev pub IsDirective : List Placed → Word → Type 0
IsDirective begun w = (w ≡ name (codes ":-")) × (begun ≡ [])

-- Behind the words ws, of which those begun are of no whole clause, a word is refused: the `:-` of a directive; what
-- no text goes on with; what no text goes on with within the limits.
pub data IsRefusedWord (ws begun : List Placed) (p : Placed) : Cause → Type 0 where
  directive : IsDirective begun p.word → IsRefusedWord ws begun p not_pure
  no_grammar : (IsDirective begun p.word → ⊥) → (CanGoOn false (ws ++ p ∷ []) → ⊥) → IsRefusedWord ws begun p syntax
  over_limit : CanGoOn false (ws ++ p ∷ []) → (CanGoOn true (ws ++ p ∷ []) → ⊥)
      → IsRefusedWord ws begun p (limit_of p.word)

-- The text of these clauses, queries and rules becomes that table.
pub record IsTaken (bytes : Bytes) (ws : List Placed) (T : Table) : Type 0 where
  pub statements : List Statement
  pub spelled : IsText true ws statements
  pub taken : Takes bytes empty statements T

-- The text is refused: for its size; else at the first word, clause or other place in order at which it is; else at
-- its end.
pub data IsRefused (bytes : Bytes) : Refusal → Type 0 where
  too_long : MAX_BYTES < length bytes → IsRefused bytes (at bytes MAX_BYTES (too_big source))
  at_word : (ws : List Placed) (p : Placed) (a : Answer) (c : Cause) → length bytes ≤ MAX_BYTES
      → HasWords bytes (ws ++ p ∷ []) a
      → (passed : IsPassed bytes ws) → IsRefusedWord ws passed.begun p c → IsRefused bytes (at bytes p.place c)
  at_clause : (ws us : List Placed) (a : Answer) (T : Table) (s : Statement) (f : tables.Fault)
      → length bytes ≤ MAX_BYTES → HasWords bytes (ws ++ us) a
      → IsTaken bytes ws T → IsText true us (s ∷ []) → statement_fault T s ≡ Some f
      → IsRefused bytes (at bytes s.place (cause_of f))
  at_token : (ws : List Placed) (f : tokens.Fault) → length bytes ≤ MAX_BYTES → HasWords bytes ws (none_for f)
      → IsPassed bytes ws → IsRefused bytes (fault_at bytes f)
  unended : (ws : List Placed) → length bytes ≤ MAX_BYTES → HasWords bytes ws no_more → (passed : IsPassed bytes ws)
      → (passed.begun ≡ [] → ⊥) → IsRefused bytes (at bytes (length bytes) syntax)
  without_query : (ws : List Placed) (T : Table) → length bytes ≤ MAX_BYTES → HasWords bytes ws no_more
      → IsTaken bytes ws T → T.asked ≡ None → IsRefused bytes (at bytes (length bytes) no_query)
  with_unknown : (ws : List Placed) (T : Table) (q : SourceClause) (u : tables.Unknown) → length bytes ≤ MAX_BYTES
      → HasWords bytes ws no_more → IsTaken bytes ws T → T.asked ≡ Some q
      → unknown_of T q ≡ Some u → IsRefused bytes (record { cause = unknown u.name u.arity; line = u.line })

-- The bytes are in the grammar, and stand for that program, whose bodies may hold disjunctions.
pub record IsTextOf (bytes : Bytes) (P : SourceProgram) : Type 0 where
  pub size : length bytes ≤ MAX_BYTES
  pub words : List Placed
  pub spelled : HasWords bytes words no_more
  pub table : Table
  pub taken : IsTaken bytes words table
  pub query : SourceClause
  pub asked : table.asked ≡ Some query
  pub known : unknown_of table query ≡ None
  pub program : program_of table query ≡ P

abbrev pub Reads : Bytes → SourceProgram → Type 0
Reads bytes P = IsTextOf bytes P

-- They stand for a program that is lifted to that one.
abbrev pub IsLiftedFrom : Bytes → Program → Type 0
IsLiftedFrom bytes P = (S : SourceProgram) × Reads bytes S × (P ≡ lift S)
