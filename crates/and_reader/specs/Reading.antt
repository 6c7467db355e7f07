-- How far a text is read.
use Rattle.std.specs.Prelude.{ℕ, ◌≡◌, ◌++◌, Bool, true, false, List, [], ◌∷◌, Some, None}
use Rattle.and_model.specs.Lines.{Bytes}
use Rattle.and_syntax.specs.Written.{Written}
use Rattle.and_syntax.specs.Tables.{empty, Table, Fault, clause_fault, with_clause}
use Rattle.and_translation.specs.Translation.{translated}
use Rattle.and_language.specs.Tokens.{line_at}
use Rattle.and_language.specs.Words.{Word, Placed}
use Rattle.and_language.specs.Grammar.{Sort, Statement, IsText}
use Rattle.and_language.specs.Refusals.{Takes, Refusal, at, cause_of, rule_fault, statement_fault, with_statement}
use Rattle.and_automaton.specs.Machine.{State, start, is_over, run, words_of}
use Rattle.and_drafts.specs.Drafts.{Draft, draft_of}
use Rattle.and_clauses.specs.Views.{table_of}
use Rattle.and_reader.specs.declared.reading.Begun.{Begun}
use Rattle.and_reader.specs.declared.reading.Reader.{Reader}
use Rattle.and_reader.specs.Standing.{IsState}

-- the place of the first of the words, or that one where there are none
abbrev pub first_place : List Placed → ℕ → ℕ
first_place [] n = n
first_place (p ∷ ps) n = p.place

-- The clause of these words is begun: its parser stands for the state behind them, and its line is that of the first
-- of them (or of the place, where there are none yet).
pub record IsBegun (bytes : Bytes) (place : ℕ) (b : Begun) (words : List Placed) : Type 0 where
  pub state : State
  pub ran : run true start (words_of words) ≡ Some state
  pub unended : is_over state ≡ false
  pub stands : IsState b.parser state
  pub first : state ≡ start → words ≡ []
  pub line : b.line ≡ line_at bytes (first_place words place)
  pub drafted : (draft_of b.parser.draft).line ≡ b.line

-- The clause that is begun, if one is, is that of these words.
abbrev pub IsClause : Bytes → Bool → Begun → List Placed → Type 0
IsClause bytes false b words = words ≡ []
IsClause bytes true b words = (words ≡ [] → ⊥) × IsBegun bytes 0 b words

-- The reader's table has the clauses, queries and rules of the words before those begun, of which more is said.
pub record Reads (bytes : Bytes) (r : Reader) (words : List Placed) (IsRest : List Placed → Type 0) : Type 0 where
  pub text : r.bytes.now ≡ bytes
  pub line : r.cursor.line ≡ line_at bytes r.cursor.place
  pub whole : List Placed
  pub begun : List Placed
  pub joined : words ≡ whole ++ begun
  pub statements : List Statement
  pub spelled : IsText true whole statements
  pub taken : Takes bytes empty statements (table_of r.table)
  pub rest : IsRest begun

-- the reader has read these words of the text
abbrev pub IsRead : Bytes → Reader → List Placed → Type 0
IsRead bytes r words = Reads bytes r words (IsClause bytes r.is_begun r.clause)

-- the same, where that clause is begun, whose next word stands at the place
abbrev pub IsReadBefore : Bytes → ℕ → Reader → Begun → List Placed → Type 0
IsReadBefore bytes place r b words = Reads bytes r words (IsBegun bytes place b)

-- words, and behind them one more at that place
abbrev pub with_word : List Placed → Word → ℕ → List Placed
with_word words w place = words ++ record { word = w; place = place } ∷ []

-- The draft is that of the clause, query or rule, which is of that sort, and whose first token is on the draft's line.
pub record IsDraftOf (bytes : Bytes) (draft : Draft) (sort : Sort) (s : Statement) : Type 0 where
  pub kind : s.sort ≡ sort
  pub term : draft.finished ≡ s.term ∷ []
  pub line : draft.line ≡ line_at bytes s.place

-- A term is added to a table as a clause on that line; or the clause for which it stands as a rule is. The table
-- becomes the other.
abbrev pub IsPut : Table → Written → ℕ → Table → Type 0
IsPut T w line U = (clause_fault T w ≡ None) × (U ≡ with_clause T w line)

abbrev pub IsRulePut : Table → Written → ℕ → Table → Type 0
IsRulePut T w line U = (rule_fault T w ≡ None) × (U ≡ with_clause T (translated w) line)

-- the clause, query or rule is added to a table, which becomes the other
abbrev pub IsAdded : Bytes → Table → Statement → Table → Type 0
IsAdded bytes T s U = (statement_fault T s ≡ None) × (U ≡ with_statement bytes T s)

-- the clause, query or rule is refused for a fault, at its place
abbrev pub IsFaultOf : Bytes → Table → Statement → Refusal → Type 0
IsFaultOf bytes T s r = (f : Fault) × (statement_fault T s ≡ Some f) × (r ≡ at bytes s.place (cause_of f))
