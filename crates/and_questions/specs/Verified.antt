-- What is told of a document: whether it proves an answer of its program (this project's own).
use Rattle.std.specs.Prelude.{ℕ, ◌≡◌, ◌<◌, ◌≤◌, Bool, true, false, List, length, take, drop, codes, Option, Some, None}
use Rattle.and_model.specs.Lines.{Bytes}
use Rattle.and_model.specs.Programs.{Program}
use Rattle.and_language.specs.Refusals.{IsLiftedFrom, Refusal, IsRefused, at, too_big}
use Rattle.and_syntax.specs.Tables.{source}
use Rattle.and_reader.specs.RefusalLine.{refusal_line}
use Rattle.and_proof.specs.Documents.{IsMark}
use Rattle.and_proof.specs.Proofs.{ProofText}
use Rattle.and_questions.specs.declared.question.TheConstants.{MAX_DOCUMENT}
use Rattle.and_status.specs.declared.status.Status.{Status}
use Rattle.and_status.specs.declared.status.Status.TheVariants.{Answers, NoAnswer, Refused}

-- The proof part begins with the last line that is exactly the mark; where no line is, there is none.
abbrev pub IsDivided : Bytes → Option ℕ → Type 0
IsDivided bytes None = (place : ℕ) → IsMark bytes place → ⊥
IsDivided bytes (Some place) = IsMark bytes place × ((other : ℕ) → IsMark bytes other → other ≤ place)

-- the program part: what stands before the proof part, or all bytes where there is none
abbrev pub program_part : Bytes → Option ℕ → Bytes
program_part bytes None = bytes
program_part bytes (Some place) = take place bytes

-- the proof part is there, and is the text of the proof of some code
abbrev pub IsProved : Program → Bytes → Option ℕ → Type 0
IsProved P bytes None = ⊥
IsProved P bytes (Some place) = (code : List ℕ) × ProofText P code (drop place bytes)

-- The document is not too large, and its program part reads as a program; this holds of that to which it is lifted,
-- and of where the proof part begins.
pub record IsDocument (bytes : Bytes) (fact : Program → Option ℕ → Type 0) : Type 0 where
  pub place : Option ℕ
  pub program : Program
  pub fits : length bytes ≤ MAX_DOCUMENT
  pub divided : IsDivided bytes place
  pub reads : IsLiftedFrom (program_part bytes place) program
  pub has : fact program place

-- Why a document is refused: it is too large; or else its program part is refused.
pub data IsDocumentRefused (bytes : Bytes) : Refusal → Type 0 where
  too_long : MAX_DOCUMENT < length bytes → IsDocumentRefused bytes (at bytes MAX_DOCUMENT (too_big source))
  by_program : (place : Option ℕ) (r : Refusal) → length bytes ≤ MAX_DOCUMENT → IsDivided bytes place
      → IsRefused (program_part bytes place) r → IsDocumentRefused bytes r

-- what is told, by whether the document holds
abbrev pub line_of : Bool → Bytes
line_of true = codes "holds\n"
line_of false = codes "fails\n"

abbrev pub status_of : Bool → Status
status_of true = Answers
status_of false = NoAnswer

-- What a document is answered with under each status.
abbrev pub WasVerified : Status → Bytes → Bytes → Type 0
WasVerified Answers bytes out = IsDocument bytes (λ P place. IsProved P bytes place) × (out ≡ line_of true)
WasVerified NoAnswer bytes out = IsDocument bytes (λ P place. IsProved P bytes place → ⊥) × (out ≡ line_of false)
WasVerified Refused bytes out = (r : Refusal) × IsDocumentRefused bytes r × (out ≡ refusal_line r)
WasVerified other bytes out = ⊥
