-- What each status says of the bytes that were read and written (this project's own).
use Rattle.std.specs.Prelude.{ℕ, ◌≡◌, ◌≢◌, ◌<◌, ◌≤◌, ◌⊎◌, ◌+◌, List, ◌++◌, length, take, Option, Some, None}
use Rattle.and_model.specs.Lines.{Bytes}
use Rattle.and_io.specs.declared.reading.ReadAll.{ReadAll}
use Rattle.and_io.specs.declared.reading.ReadAll.TheVariants as reads
use Rattle.and_command.specs.Commands.{IsCommand}
use Rattle.and_command.specs.declared.reading.Command.{Command}
use Rattle.and_status.specs.declared.status.Status.{Status}
use Rattle.and_status.specs.declared.status.Status.TheVariants.{Answers, NoAnswer, Usage, Refused, ReadFault}
use Rattle.and_status.specs.declared.status.Status.TheVariants.{WriteFault, Limit, Memory, Floundered}
use Rattle.and_questions.specs.declared.question.Request.{Request}
use Rattle.and_questions.specs.Replied.{IsAnswer}

-- no command has these words
abbrev pub IsUsage : List Bytes → Type 0
IsUsage words = (c : Command) → IsCommand words c → ⊥

-- a part of what was due was given, from its beginning on, and not all
abbrev pub GivesPrefix : Bytes → Bytes → Bytes → Type 0
GivesPrefix old new due = (n : ℕ) × (n < length due) × (new ≡ old ++ take n due)

-- the bytes are answered with something, which was given
abbrev pub GivesAnswer : Request → Bytes → Bytes → Status → Bytes → Type 0
GivesAnswer request old new status bytes = (out : Bytes) × IsAnswer request status bytes out × (new ≡ old ++ out)

-- under some status the bytes are answered with something, of which a part was given
abbrev pub FailsWriting : Request → Bytes → Bytes → Bytes → Type 0
FailsWriting request old new bytes =
    (status : Status) × (due : Bytes) × IsAnswer request status bytes due × GivesPrefix old new due

-- What each status says of the bytes of a source and of what the sink was given for them.
abbrev pub Answered : Request → Bytes → Bytes → Status → Bytes → Type 0
Answered request old new Answers bytes = GivesAnswer request old new Answers bytes
Answered request old new NoAnswer bytes = GivesAnswer request old new NoAnswer bytes
Answered request old new Floundered bytes = GivesAnswer request old new Floundered bytes
Answered request old new Limit bytes = GivesAnswer request old new Limit bytes
Answered request old new Refused bytes = GivesAnswer request old new Refused bytes
Answered request old new Usage bytes = ⊥
Answered request old new ReadFault bytes = new ≡ old
Answered request old new WriteFault bytes = FailsWriting request old new bytes
Answered request old new Memory bytes = new ≡ old

-- Unless reading failed or memory was wanting, the bytes go to the end of the source, or are more than there may be.
abbrev pub IsRead : (most : ℕ) (ended : Type 0) → Status → Bytes → Type 0
IsRead most ended status bytes = status ≢ ReadFault → status ≢ Memory → ended ⊎ (most < length bytes)

-- The source gave such bytes in this call, and this holds of them. It takes one byte more than there may be at most.
abbrev pub Took : (most : ℕ) (old new : Bytes) (ended : Type 0) → Status → (Bytes → Type 0) → Type 0
Took most old new ended status fact =
    (bytes : Bytes) × (new ≡ old ++ bytes) × (length bytes ≤ most + 1) × IsRead most ended status bytes × fact bytes

-- what holds of the bytes that were left, where the source told them
abbrev pub Told : Option Bytes → (Bytes → Type 0) → Type 0
Told None fact = Unit {0}
Told (Some bytes) fact = fact bytes

-- the search went as far as it goes, or the verdict was told
abbrev pub IsComplete : Status → Type 0
IsComplete status = (status ≡ Answers) ⊎ (status ≡ NoAnswer) ⊎ (status ≡ Limit) ⊎ (status ≡ Floundered)

-- what was read: the whole text, or more of it than a text may have
abbrev pub bytes_read : ReadAll → Bytes
bytes_read (reads.Whole text) = text
bytes_read (reads.Over text) = text
