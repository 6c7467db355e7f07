-- Texts that begin with the same bytes.
use Rattle.std.specs.Prelude.{ℕ, ◌≡◌, true, List, [], ◌∷◌, ◌++◌, length, take}
use Rattle.and_model.specs.Lines.{Bytes}
use Rattle.and_syntax.specs.Written.{Written}
use Rattle.and_syntax.specs.Tables.{Table, empty}
use Rattle.and_program.specs.Loaded.{program_of}
use Rattle.and_language.specs.Tokens.{Token, Answer, no_more, line_at, Comes, HasTokens}
use Rattle.and_language.specs.Words.{Placed, AreWords}
use Rattle.and_language.specs.Grammar.{Sort, Statement, IsText}
use Rattle.and_language.specs.Refusals.{Takes, HasWords, IsLiftedFrom}
use Rattle.and_beginnings.specs.Beginnings.{behind, IsValidTo}
use Rattle.and_clauses.specs.Asking.{clauses_table, asked_table, IsPutTo, Ground, ground_of, asked_ground}
use Rattle.and_drafts.specs.Drafts.{Draft, draft_of}
use Rattle.and_drafts.specs.declared.draft.ClauseDraft.{ClauseDraft}
use Rattle.and_reader.specs.Reading.{IsRead}
use Rattle.and_reader.specs.declared.reading.Reader.{Reader}
use Rattle.and_reader.specs.declared.kept.Beginning.{Beginning}
use Rattle.and_reader.specs.declared.kept.Whole.{Whole}
use Rattle.and_reader.specs.declared.kept.GoneOn.{GoneOn}
use Rattle.and_reader.specs.declared.kept.GoneOn.TheVariants as gone

-- The reader has read words of the text, the tokens of which end at that place.
pub record IsReadTo (bytes : Bytes) (r : Reader) (end : ℕ) : Type 0 where
  pub next : Answer
  pub tokens : List Token
  pub words : List Placed
  pub placed : HasTokens bytes next 0 tokens
  pub spelled : AreWords bytes next tokens words
  pub ended : behind 0 tokens ≡ end
  pub read : IsRead bytes r words

-- the text begins with these bytes, and is UTF-8 so far
abbrev pub BeginsWith : Bytes → Bytes → Type 0
BeginsWith front text = (take (length front) text ≡ front) × IsValidTo text (length front)

-- Each text that begins with these bytes has up to that place the words of clauses, and has the table of these.
pub record IsBegunSo (front : Bytes) (end : ℕ) (T : Table) : Type 0 where
  pub whole : List Placed
  pub statements : List Statement
  pub read : IsText true whole statements
  pub spelled : (text : Bytes) → BeginsWith front text → (a : Answer) → Comes text end a → HasWords text whole a
  pub taken : (text : Bytes) → BeginsWith front text → Takes text empty statements T

abbrev pub IsBeginning : Beginning → Type 0
IsBeginning b = IsBegunSo b.front.items b.end (clauses_table b.clauses)

abbrev pub IsBeginningOf : Whole → Type 0
IsBeginningOf w = IsBegunSo w.front.items w.end (asked_table w.asked)

-- Behind those words the text has a query, and nothing else; the draft is that of the query.
pub record IsQueryOf (bytes : Bytes) (ws : List Placed) (d : ClauseDraft) : Type 0 where
  pub words : List Placed
  pub spelled : HasWords bytes (ws ++ words) no_more
  pub term : Written
  pub place : ℕ
  pub read : IsText true words (record { sort = Sort.query; term = term; place = place } ∷ [])
  pub finished : (draft_of d).finished ≡ term ∷ []
  pub line : (draft_of d).line ≡ line_at bytes place

-- the text is read as that program, or the beginning is as it was
abbrev pub IsGoneOn : Bytes → GoneOn → Type 0
IsGoneOn text (gone.Whole w) = IsBeginningOf w × IsLiftedFrom text (program_of w.asked.loaded)
IsGoneOn text (gone.Left b) = IsBeginning b

-- what a beginning has
pub record Had : Type 0 where
  pub front : Bytes
  pub end : ℕ
  pub table : Table

-- the query of the draft is put to the clauses of what was had, or these are as they were
abbrev pub IsPutOn : Had → Draft → GoneOn → Type 0
IsPutOn had d (gone.Whole w) = (w.front.items ≡ had.front) × (w.end ≡ had.end) × (asked_table w.asked ≡ had.table)
    × IsPutTo had.table d (program_of w.asked.loaded)
IsPutOn had d (gone.Left b) = (b.front.items ≡ had.front) × (b.end ≡ had.end) × (clauses_table b.clauses ≡ had.table)

abbrev pub had_of : Beginning → Had
had_of b = record { front = b.front.items; end = b.end; table = clauses_table b.clauses }

-- the nodes and the entries of the beginning's clauses
abbrev pub beginning_ground : Beginning → Ground
beginning_ground b = ground_of b.clauses

abbrev pub whole_ground : Whole → Ground
whole_ground w = asked_ground w.asked

-- the clauses are these still
abbrev pub StaysOn : Ground → GoneOn → Type 0
StaysOn g (gone.Whole w) = whole_ground w ≡ g
StaysOn g (gone.Left b) = beginning_ground b ≡ g
