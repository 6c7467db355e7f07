-- What is told of a text of several queries before any is answered (this project's own).
use Rattle.std.specs.Prelude.{ℕ, ◌≡◌, ◌<◌, ◌≤◌, List, [], ◌∷◌, length, Option, Some, None, IfSome}
use Rattle.and_model.specs.Lines.{Bytes}
use Rattle.and_source.specs.Source.{SourceProgram}
use Rattle.and_language.specs.Refusals.{Refusal, IsRefused, Reads}
use Rattle.and_model.specs.declared.limits.TheConstants.{MAX_BYTES}
use Rattle.and_batch_text.specs.Queries.{Span, HasQueries}
use Rattle.and_batch_text.specs.Refused.{AreRead, IsBatch, IsBatchRefused}
use Rattle.and_batch_text.specs.Singles.{single}
use Rattle.and_batch_text.specs.Views.{spans_of}
use Rattle.and_reader.specs.Beginning.{IsBeginning}
use Rattle.and_reader.specs.Causes.{refusal_of}
use Rattle.and_reader.specs.declared.refusal.ReadRefusal.{ReadRefusal}
use Rattle.and_batch_reader.specs.declared.opening.Opened.{Opened}
use Rattle.and_batch_reader.specs.declared.opening.Opened.TheVariants as opened
use Rattle.and_batch_reader.specs.declared.opening.Sought.{Sought}
use Rattle.and_batch_reader.specs.declared.opening.Sought.TheVariants as sought

-- the refusal is not want of memory, and this holds of it
abbrev pub IsRefusedAs : (Refusal → Type 0) → ReadRefusal → Type 0
IsRefusedAs fact refusal = (r : Refusal) × (refusal_of refusal ≡ Some r) × fact r

-- the text is that of a program, or is refused for that
abbrev pub IsJudged : Bytes → Option ReadRefusal → Type 0
IsJudged text None = (P : SourceProgram) × Reads text P
IsJudged text (Some refusal) = IsRefusedAs (IsRefused text) refusal

-- the query with that number is the first that is refused by itself, and that is why
abbrev pub IsFirstRefused : Bytes → List Span → ReadRefusal → ℕ → Type 0
IsFirstRefused bytes spans refusal k =
    (k < length spans) × AreRead bytes spans k × IsRefusedAs (IsRefused (single bytes spans k)) refusal

-- each of the queries is, by itself, that of a program, or the first that is none is refused for that
abbrev pub AreJudged : Bytes → List Span → Option ReadRefusal → Type 0
AreJudged bytes spans None = AreRead bytes spans (length spans)
AreJudged bytes spans (Some refusal) = (k : ℕ) × IsFirstRefused bytes spans refusal k

-- the same, or where there is no query of the text itself
abbrev pub IsJudgedWhole : Bytes → List Span → Option ReadRefusal → Type 0
IsJudgedWhole bytes [] refusal = IsJudged bytes refusal
IsJudgedWhole bytes (s ∷ ss) refusal = AreJudged bytes (s ∷ ss) refusal

-- These are the text's queries, which is not too long, and they are not too many.
pub record AreFew (bytes : Bytes) (spans : List Span) : Type 0 where
  pub size : length bytes ≤ MAX_BYTES
  pub queries : HasQueries bytes spans
  pub few : length spans ≤ 256

-- the text has these queries, or it is refused
abbrev pub IsSought : Bytes → Sought → Type 0
IsSought bytes (sought.Queries spans) = AreFew bytes (spans_of spans.items)
IsSought bytes (sought.Refused refusal) = IsRefusedAs (IsBatchRefused bytes) refusal

-- each of the queries is that of a program by itself, or the text is refused
abbrev pub IsOpened : Bytes → List Span → Opened → Type 0
IsOpened bytes spans (opened.Read beginning) = IsBatch bytes spans
IsOpened bytes spans (opened.Refused refusal) = IsRefusedAs (IsBatchRefused bytes) refusal

-- what is read of the beginning, where it is, is that of all texts with these first bytes
abbrev pub IsBegun : Opened → Type 0
IsBegun (opened.Read beginning) = IfSome beginning IsBeginning
IsBegun (opened.Refused refusal) = Unit {0}
