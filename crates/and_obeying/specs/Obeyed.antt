-- What the top call does with the words of a command line (this project's own).
use Rattle.std.specs.Prelude.{ℕ, ◌≡◌, ◌≢◌, ◌≤◌, ◌⊎◌, List, [], ◌++◌}
use Rattle.and_io.specs.Flow.{Rose, AreAll}
use Rattle.and_io.specs.declared.outside.Sink as sinks
use Rattle.and_io.specs.declared.outside.Source as sources
use Rattle.and_model.specs.Lines.{Bytes}
use Rattle.and_command.specs.Forms.{usage}
use Rattle.and_command.specs.Commands.{IsCommand}
use Rattle.and_command.specs.declared.reading.Command.{Command}
use Rattle.and_command.specs.declared.reading.Command.TheVariants as commands
use Rattle.and_gen.specs.Layered.{layered}
use Rattle.and_model.specs.declared.limits.TheConstants.{DEFAULT_LIMIT}
use Rattle.and_obeying.specs.Answered.{IsUsage, Answered, GivesPrefix, IsComplete, Took, Told}
use Rattle.and_questions.specs.Replied.{IsAllowed, most_of}
use Rattle.and_questions.specs.declared.question.Question.TheVariants.{Run, Check, First, Explain, Tree, Lint}
use Rattle.and_questions.specs.declared.question.Request.{Request}
use Rattle.and_questions.specs.declared.question.Request.TheVariants.{Text, Document, Batch}
use Rattle.and_obeying.specs.declared.work.Work.{Work}
use Rattle.and_obeying.specs.declared.work.Work.TheVariants.{Source, Demo}
use Rattle.and_reports.specs.declared.showing.Show.TheVariants.{Whole, Summary}
use Rattle.and_status.specs.declared.status.Status.{Status}
use Rattle.and_status.specs.declared.status.Status.TheVariants.{Usage, Refused, ReadFault, WriteFault, Memory}

-- What a command asks for.
abbrev pub work_of : Command → Work
work_of (commands.Run settings) = Source (Text (Run (Whole settings.stats) settings.limit))
work_of commands.Check = Source (Text Check)
work_of (commands.Demo number settings) = Demo number settings
work_of (commands.Explain place settings) = Source (Text (Explain place settings.limit))
work_of commands.Verify = Source Document
work_of (commands.Tree limit) = Source (Text (Tree limit))
work_of (commands.Batch jobs settings) = Source (Batch jobs settings.limit)
work_of (commands.First count settings) = Source (Text (First count settings.limit))
work_of commands.Lint = Source (Text Lint)

-- its number and its limit are those that a command may have
abbrev pub IsWork : Work → Type 0
IsWork (Source request) = IsAllowed request
IsWork (Demo number settings) = (number ≤ 64) × (settings.limit ≡ DEFAULT_LIMIT)

-- A call on a source, from this state to that, and on a sink, from this state to that; and the status with which it
-- returns.
module _ {S K : Type 0} (from : sources.Ghosts S) (to : sinks.Ghosts K) (status : Status) (source rest : S)
    (sink more : K) where
  -- What the source gave is answered, and so is all that was left, where it told that. A complete answer is to all of
  -- it.
  pub record AnswersSource (request : Request) : Type 0 where
    pub answered : Took (most_of request) (from.taken source) (from.taken rest) (from.ended rest) status
        (Answered request (to.given sink) (to.given more) status)
    pub told : Told (from.left source) (Answered request (to.given sink) (to.given more) status)
    pub read_whole : IsComplete status → from.ended rest × AreAll (from.left rest) []

  -- nothing was read
  abbrev pub IsUnread : Type 0
  IsUnread = (from.taken rest ≡ from.taken source) × (from.left rest ≡ from.left source)
      × (from.faults rest ≡ from.faults source)

  -- The generated text of a number is answered by a summary, and nothing is read.
  pub record AnswersDemo (number : ℕ) : Type 0 where
    pub answered : Answered (Text (Run Summary DEFAULT_LIMIT)) (to.given sink) (to.given more) status (layered number)
    pub not_refused : status ≢ Refused
    pub unread : IsUnread

  -- Which of the two is to blame for a fault.
  pub record Blames : Type 0 where
    pub read_fault : status ≡ ReadFault → Rose from.last (from.faults source) (from.faults rest)
        × (to.given more ≡ to.given sink)
    pub write_fault : status ≡ WriteFault → Rose to.last (to.faults sink) (to.faults more)
    pub memory : status ≡ Memory → to.given more ≡ to.given sink
    pub source_count : from.faults source ≤ from.faults rest
    pub sink_count : to.faults sink ≤ to.faults more

  -- What is done.
  abbrev pub Does : Work → Type 0
  Does (Source request) = AnswersSource request
  Does (Demo number settings) = AnswersDemo number

  -- What is done with these words.
  pub record Obeys (words : List Bytes) : Type 0 where
    pub obeyed : (command : Command) → IsCommand words command → Does (work_of command)
    pub usage_only : status ≡ Usage → IsUsage words × (to.given more ≡ to.given sink ++ usage)
    pub used : IsUsage words
        → ((status ≡ Usage) ⊎ ((status ≡ WriteFault) × GivesPrefix (to.given sink) (to.given more) usage)) × IsUnread
    pub blame : Blames
