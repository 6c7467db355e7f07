-- From what is done to what is done with words.
use Rattle.std.proofs.Common.{◌≡◌, ◌≢◌, ◌⊎◌, inl, inr, List, [], Option, Some, None, refl, sym, subst, arith}
use Rattle.std.proofs.lemmas.List.{append-nil}
use Rattle.and_io.specs.declared.outside.Sink as sinks
use Rattle.and_io.specs.declared.outside.Source as sources
use Rattle.and_model.specs.Lines.{Bytes}
use Rattle.and_command.proofs.CallerLemmas.{demo_limit}
use Rattle.and_command.specs.Commands.{HasCommand, IsCommand, IsInRange}
use Rattle.and_command.specs.declared.reading.Command.{Command}
use Rattle.and_command.specs.declared.reading.Command.TheVariants as commands
use Rattle.and_obeying.specs.Obeyed.{Blames, Does, IsWork, Obeys, work_of}
use Rattle.and_obeying.specs.Answered.{Told}
use Rattle.and_status.specs.declared.status.Status.{Status}
use Rattle.and_status.specs.declared.status.Status.TheVariants.{Answers, NoAnswer, Usage, Refused, ReadFault, WriteFault, Limit, Memory, Floundered}
use Rattle.and_obeying.specs.declared.work.Work.{Work}
use Rattle.and_obeying.specs.declared.work.Work.TheVariants.{Source, Demo}
use Rattle.and_obeying.proofs.AskLemmas.{memory_incomplete}

-- words are those of one command
pub same_command : (o : Option Command) (r command : Command) → o ≡ Some r → o ≡ Some command → r ≡ command
same_command o r command e f = cc

pub no_command : (o : Option Command) (command : Command) → o ≡ None → o ≡ Some command → ⊥
no_command o command e f = cc

-- How to use the program was written, or a part of it.
pub usage_told : (A B : Type 0) (result : Status) → (result ≢ WriteFault → (result ≡ Usage) × A) → (result ≡ WriteFault → B)
    → (result ≡ Usage) ⊎ ((result ≡ WriteFault) × B)
usage_told A B Answers ok bad = inl ((ok (λ e. cc)).0)
usage_told A B NoAnswer ok bad = inl ((ok (λ e. cc)).0)
usage_told A B Usage ok bad = inl refl
usage_told A B Refused ok bad = inl ((ok (λ e. cc)).0)
usage_told A B ReadFault ok bad = inl ((ok (λ e. cc)).0)
usage_told A B WriteFault ok bad = inr (refl, bad refl)
usage_told A B Limit ok bad = inl ((ok (λ e. cc)).0)
usage_told A B Memory ok bad = inl ((ok (λ e. cc)).0)
usage_told A B Floundered ok bad = inl ((ok (λ e. cc)).0)

-- and so there was no other fault
pub usage_no_fault : (A : Type 0) (result : Status) → (result ≢ WriteFault → (result ≡ Usage) × A) → (result ≡ ReadFault) ⊎ (result ≡ Memory) → ⊥
usage_no_fault A result ok is = elim is [
  | inl e ↦ (let u = (ok (λ w. cc)).0 in absurd cc)
  | inr e ↦ (let u = (ok (λ w. cc)).0 in absurd cc)
]

-- what a command asks for has a number and a limit that may be
pub is_work : (words : List Bytes) (command : Command) → IsCommand words command → IsInRange command → IsWork (work_of command)
is_work words (commands.Run settings) is range = range.0.1
is_work words commands.Check is range = tt
is_work words (commands.Demo number settings) is range = (range.0, demo_limit words number settings is)
is_work words (commands.Explain place settings) is range = (range.0.0, range.1.0.1)
is_work words commands.Verify is range = tt
is_work words (commands.Tree limit) is range = range.1
is_work words (commands.Batch jobs settings) is range = (omega (arith, range.0.0), range.0.1, range.1.0.1)
is_work words (commands.First count settings) is range = range.1.0.1
is_work words commands.Lint is range = tt

module _ {S K : Type 0} (from : sources.Ghosts S) (to : sinks.Ghosts K) (status : Status) (source rest : S) (sink more : K) where
  -- The command is done, and the words are those of no other.
  pub obeys : (words : List Bytes) (command : Command) → IsCommand words command → ((other : Command) → IsCommand words other → command ≡ other)
      → Does from to status source rest sink more (work_of command) → status ≢ Usage → Blames from to status source rest sink more
      → Obeys from to status source rest sink more words
  obeys words command is same does not_usage blame = record {
    obeyed = λ other of. subst (λ c. Does from to status source rest sink more (work_of c)) (same other of) does;
    usage_only = λ u. absurd (not_usage u);
    used = λ none. absurd (none command is);
    blame = blame;
  }

told_all : (o : Option Bytes) (fact : Bytes → Type 0) → ((bytes : Bytes) → fact bytes) → Told o fact
told_all None fact is = tt
told_all (Some bytes) fact is = is bytes

-- Where memory was wanting before anything was read, any work is done as far as that goes.
module _ {S K : Type 0} (from : sources.Ghosts S) (to : sinks.Ghosts K) (source : S) (sink : K) where
  undone : (work : Work) → Does from to Memory source source sink sink work
  undone (Source request) = record {
    answered = ([], sym (append-nil (from.taken source)), omega arith, (λ a b. absurd (b refl)), refl);
    told = told_all (from.left source) _ (λ bytes. refl);
    read_whole = λ c. absurd (memory_incomplete c);
  }
  undone (Demo number settings) = record { answered = refl; not_refused = λ e. cc; unread = (refl, refl, refl) }

  pub wants_memory : (words : List Bytes) → HasCommand words → Obeys from to Memory source source sink sink words
  wants_memory words has = record {
    obeyed = λ command is. undone (work_of command);
    usage_only = λ u. absurd (cc);
    used = λ none. absurd (none has.0 has.1);
    blame = record {
      read_fault = λ e. absurd (cc);
      write_fault = λ e. absurd (cc);
      memory = λ e. refl;
      source_count = omega arith;
      sink_count = omega arith;
    };
  }
