-- What the bytes of a source are answered with under each status, by what they are asked for (this project's own).
use Rattle.std.specs.Prelude.{ℕ, ◌≡◌, ◌≢◌, ◌<◌, ◌≤◌, ◌↔◌, true, false, List, [], ◌++◌, Option, Some, None}
use Rattle.and_model.specs.Limits.{Cut, OverLimit}
use Rattle.and_model.specs.Lines.{Bytes}
use Rattle.and_model.specs.Listing.{Entry, Listing}
use Rattle.and_model.specs.Output.{lines_of, limit_met}
use Rattle.and_model.specs.Programs.{Program}
use Rattle.and_model.specs.Reached.{Numbers}
use Rattle.and_model.specs.Trees.{blank, query_agenda}
use Rattle.and_model.specs.declared.limits.TheConstants.{MAX_BYTES, MAX_LIMIT}
use Rattle.and_source.specs.Lifted.{lift}
use Rattle.and_source.specs.Source.{SourceProgram}
use Rattle.and_source.specs.SourceListing.{SourceListing, SourceExhausted}
use Rattle.and_language.specs.Refusals.{Reads, Refusal, IsRefused}
use Rattle.and_first.specs.First.{IsTold, last_line}
use Rattle.and_first.specs.declared.first.End.{End}
use Rattle.and_reader.specs.RefusalLine.{refusal_line}
use Rattle.and_status.specs.declared.status.Status.{Status}
use Rattle.and_status.specs.declared.status.Status.TheVariants.{Answers, NoAnswer, Usage, Refused, ReadFault}
use Rattle.and_status.specs.declared.status.Status.TheVariants.{WriteFault, Limit, Memory, Floundered}
use Rattle.and_reports.specs.Checked.{IsToldSafe, IsToldWaiting}
use Rattle.and_reports.specs.Shown.{shown, completed}
use Rattle.and_reports.specs.declared.showing.Show.{Show}
use Rattle.and_reports.specs.declared.showing.Show.TheVariants.{Whole}
use Rattle.and_reports.specs.Statuses.{has_floundered, first_status}
use Rattle.and_questions.specs.Explained.{Explains, LacksAll, LacksSome}
use Rattle.and_questions.specs.Batched.{WasBatched}
use Rattle.and_questions.specs.Forked.{WasForked}
use Rattle.and_questions.specs.Linted.{WasLinted}
use Rattle.and_questions.specs.Verified.{WasVerified}
use Rattle.and_questions.specs.declared.question.Question.{Question}
use Rattle.and_questions.specs.declared.question.Question.TheVariants.{Run, Check, First, Explain, Tree, Lint}
use Rattle.and_questions.specs.declared.question.Request.{Request}
use Rattle.and_questions.specs.declared.question.Request.TheVariants.{Text, Document, Batch}
use Rattle.and_questions.specs.declared.question.TheConstants.{MAX_DOCUMENT}

-- there are lines, and all are answers
abbrev pub AreAnswers : List Entry → Type 0
AreAnswers ls = (ls ≢ []) × (has_floundered ls ≡ false)

-- This is what is shown of the program's listing, every larger limit has the same one, and the numbers of forks and of
-- failed branches, where they are told, are those of the search from the query on. (The search is that of the program
-- to which it is lifted.)
pub record FindsAll (show : Show) (limit : ℕ) (lines : List Entry → Type 0) (program : SourceProgram) (out : Bytes)
    : Type 0 where
  pub listing : List Entry
  pub forks : ℕ
  pub failed : ℕ
  pub lists : SourceListing program limit listing
  pub exhausted : SourceExhausted program limit
  pub numbers : Numbers (blank {P = lift program} (query_agenda (lift program))) forks failed
  pub written : out ≡ shown show listing (completed show forks failed)
  pub has : lines listing

-- This is what is shown of the program's listing within the limit, and the limit kept the search from going on.
pub record FindsSome (show : Show) (limit : ℕ) (program : SourceProgram) (out : Bytes) : Type 0 where
  pub listing : List Entry
  pub cut : Cut (lift program)
  pub lists : SourceListing program limit listing
  pub over : OverLimit (lift program) limit cut
  pub written : out ≡ shown show listing limit_met

-- The program's first answers are told so, and the status goes with them. They are told of the program to which it is
-- lifted, of which the same is listed.
pub record TellsFirst (count limit : ℕ) (program : SourceProgram) (status : Status) (out : Bytes) : Type 0 where
  pub told : List Entry
  pub ending : End
  pub is_told : IsTold (lift program) limit count ending told
  pub same : (step : ℕ) (ls : List Entry) → SourceListing program step ls ↔ Listing (lift program) step ls
  pub written : out ≡ lines_of told ++ last_line count ending
  pub status_is : status ≡ first_status ending told

-- What a program is answered with under each status, where it is run.
abbrev pub WasRun : Show → ℕ → SourceProgram → Status → Bytes → Type 0
WasRun show limit program Answers out = FindsAll show limit AreAnswers program out
WasRun show limit program NoAnswer out = FindsAll show limit (λ ls. ls ≡ []) program out
WasRun show limit program Floundered out = FindsAll show limit (λ ls. has_floundered ls ≡ true) program out
WasRun show limit program Limit out = FindsSome show limit program out
WasRun show limit program other out = ⊥

-- What a program without disjunctions is answered with under each status, where it is checked.
abbrev pub WasChecked : Program → Status → Bytes → Type 0
WasChecked program Answers out = IsToldSafe program out
WasChecked program NoAnswer out = IsToldWaiting program out
WasChecked program other out = ⊥

-- What it is answered with under each status, where one of its answers is explained.
abbrev pub WasExplained : (place limit : ℕ) → Bytes → SourceProgram → Status → Bytes → Type 0
WasExplained place limit bytes program Answers out = Explains place limit bytes program out
WasExplained place limit bytes program NoAnswer out = LacksAll place limit program out
WasExplained place limit bytes program Limit out = LacksSome place limit program out
WasExplained place limit bytes program other out = ⊥

-- What a program that the bytes read as is answered with under each status, by what it is asked for. (It is checked
-- as the program to which it is lifted.)
abbrev pub IsReply : Question → Bytes → SourceProgram → Status → Bytes → Type 0
IsReply (Run show limit) bytes program status out = WasRun show limit program status out
IsReply Check bytes program status out = WasChecked (lift program) status out
IsReply (Tree limit) bytes program status out = WasForked limit (lift program) status out
IsReply Lint bytes program status out = WasLinted (lift program) status out
IsReply (First count limit) bytes program status out = TellsFirst count limit program status out
IsReply (Explain place limit) bytes program status out = WasExplained place limit bytes program status out

-- The bytes are a program's text, and this is what the program is answered with.
abbrev pub WasReplied : Question → Status → Bytes → Bytes → Type 0
WasReplied question status bytes out = (program : SourceProgram) × Reads bytes program
    × IsReply question bytes program status out

-- all answers of the one query of a text are asked for, and it is answered with that
abbrev pub IsRunOf : (limit : ℕ) → Status → Bytes → Bytes → Type 0
IsRunOf limit status bytes out = WasReplied (Run (Whole false) limit) status bytes out

-- the text is refused, and the line says why
abbrev pub IsRefusedBy : Bytes → Bytes → Type 0
IsRefusedBy bytes line = (r : Refusal) × IsRefused bytes r × (line ≡ refusal_line r)

-- the line of a refusal that is not for want of memory
abbrev pub IsLineOf : Option Refusal → Bytes → Type 0
IsLineOf None line = ⊥
IsLineOf (Some r) line = line ≡ refusal_line r

-- What a text is answered with under each status, by what it is asked for.
abbrev pub WasAnswered : Question → Status → Bytes → Bytes → Type 0
WasAnswered question Answers bytes out = WasReplied question Answers bytes out
WasAnswered question NoAnswer bytes out = WasReplied question NoAnswer bytes out
WasAnswered question Floundered bytes out = WasReplied question Floundered bytes out
WasAnswered question Limit bytes out = WasReplied question Limit bytes out
WasAnswered question Refused bytes out = IsRefusedBy bytes out
WasAnswered question Usage bytes out = ⊥
WasAnswered question ReadFault bytes out = ⊥
WasAnswered question WriteFault bytes out = ⊥
WasAnswered question Memory bytes out = ⊥

-- the limit is at most the largest
abbrev pub IsBounded : Question → Type 0
IsBounded (Run show limit) = limit ≤ MAX_LIMIT
IsBounded Check = Unit {0}
IsBounded (Tree limit) = limit ≤ MAX_LIMIT
IsBounded Lint = Unit {0}
IsBounded (First count limit) = limit ≤ MAX_LIMIT
IsBounded (Explain place limit) = (1 ≤ place) × (limit ≤ MAX_LIMIT)

-- how many bytes a source may have, by what they are
abbrev pub most_of : Request → ℕ
most_of (Text question) = MAX_BYTES
most_of Document = MAX_DOCUMENT
most_of (Batch jobs limit) = MAX_BYTES

-- the limit, where there is one, is at most the largest, and there are not more jobs than there may be
abbrev pub IsAllowed : Request → Type 0
IsAllowed (Text question) = IsBounded question
IsAllowed Document = Unit {0}
IsAllowed (Batch jobs limit) = (0 < jobs) × (jobs ≤ 8) × (limit ≤ MAX_LIMIT)

-- What the bytes of a source are answered with under each status, by what they are. (Each of several queries is
-- answered as a run of it by itself is.)
abbrev pub IsAnswer : Request → Status → Bytes → Bytes → Type 0
IsAnswer (Text question) status bytes out = WasAnswered question status bytes out
IsAnswer Document status bytes out = WasVerified status bytes out
IsAnswer (Batch jobs limit) status bytes out = WasBatched (IsRunOf limit) status bytes out
