-- From what the search found to what the top call says of it.
use Rattle.std.proofs.Common.{ℕ, suc, ◌≡◌, ◌-◌, ◌^◌, min, Bool, true, false, if◌then◌else◌, List, [], ◌∷◌, length, refl, sym, ap, ◌∙◌, subst, arith}
use Rattle.std.proofs.Common.{Option, Some, None, is_none, IfSome, IfOk, Result, Ok, Err, inl, true≢false}
use Rattle.std.specs.Prelude.{nat_eq}
use Rattle.std.specs.Fmt.{decimal}
use Rattle.std.proofs.lemmas.Bool.Decides.{nat_tests}
use Rattle.and_model.specs.Lines.{Bytes}
use Rattle.and_model.specs.Programs.{Program}
use Rattle.and_model.specs.Listing.{Entry}
use Rattle.and_model.specs.Output.{Finish, limit_met, counted}
use Rattle.and_model.specs.declared.goal
use Rattle.and_source.specs.Source.{SourceProgram}
use Rattle.and_source.specs.Lifted.{lift}
use Rattle.and_source.specs.SourceListing.{SourceListing}
use Rattle.and_language.specs.Refusals.{Reads, IsLiftedFrom, IsRefused, Refusal, at}
use Rattle.and_language.proofs.NumberedTexts.{numbered_text}
use Rattle.and_answers.specs.Kept.{listed, finish_with}
use Rattle.and_answers.specs.declared.found.Found.{Found}
use Rattle.and_search_laws.specs.Found.{IsFound, IsEnd, kept_count}
use Rattle.and_search_laws.specs.Found as walks
use Rattle.and_first.specs.First.{IsFirstOf, IsTold}
use Rattle.and_first.specs.declared.first.First as first_answers
use Rattle.and_first.specs.declared.first.End.{End}
use Rattle.and_first.specs.declared.first.End.TheVariants as ends
use Rattle.and_reader.specs.RefusalLine.{refusal_line}
use Rattle.and_lifting.proofs.Listing.{lifting_keeps, exhausted_alike}
use Rattle.and_status.specs.declared.status.Status.{Status}
use Rattle.and_status.specs.declared.status.Status.TheVariants.{Answers, NoAnswer, Usage, Refused, ReadFault, WriteFault, Limit, Memory, Floundered}
use Rattle.and_reports.specs.Shown.{shown, completed, finish}
use Rattle.and_reports.specs.declared.showing.Show.{Show}
use Rattle.and_reports.specs.declared.showing.Show.TheVariants.{Whole, Summary}
use Rattle.and_reports.specs.Statuses.{first_status, status_seen, told_status, exhausted, has_floundered, status_for}
use Rattle.and_questions.specs.Lifted.{IsLifted}
use Rattle.and_questions.specs.declared.reply.Reply.{Reply}
use Rattle.and_questions.specs.declared.question.Question.{Question}
use Rattle.and_questions.specs.declared.question.Question.TheVariants.{Run, Check, First, Explain, Tree, Lint}
use Rattle.and_questions.specs.Replied.{FindsAll, TellsFirst, IsRefusedBy, WasRun, IsReply, WasAnswered, IsLineOf, AreAnswers}
use Rattle.and_replies.specs.Finding.{Finds}

-- A count is written as the number that it was kept of.
count_is : (n m : ℕ) → n ≡ kept_count m → counted n ≡ counted m
count_is n m is = let same : min n (2 ^ 64 - 1) ≡ min m (2 ^ 64 - 1) = omega (arith, is) in ap decimal same

-- Where nothing was cut off, what is written is the same for the counts that were kept as for the numbers themselves.
same_counts : (show : Show) (ls : List Entry) (a b forks failed : ℕ) → a ≡ kept_count forks → b ≡ kept_count failed
    → shown show ls (completed show a b) ≡ shown show ls (completed show forks failed)
same_counts (Whole true) ls a b forks failed f g = rw (count_is a forks f, count_is b failed g) refl
same_counts (Whole false) ls a b forks failed f g = refl
same_counts Summary ls a b forks failed f g = refl

-- how a run ended, by where it was cut off
abbrev finish_at : Show → Option goal.Cut.Cut → ℕ → ℕ → Finish
finish_at (Whole stats) o forks failed = finish_with o forks failed stats
finish_at Summary o forks failed = finish_with o forks failed false

finish_is : (show : Show) (f : Found) → finish show f ≡ finish_at show f.cut f.forks f.failed
finish_is (Whole stats) f = refl
finish_is Summary f = refl

finish_none : (show : Show) (forks failed : ℕ) → finish_at show None forks failed ≡ completed show forks failed
finish_none (Whole stats) forks failed = refl
finish_none Summary forks failed = refl

finish_cut : (show : Show) (cut : goal.Cut.Cut) (forks failed : ℕ) → finish_at show (Some cut) forks failed ≡ limit_met
finish_cut (Whole stats) cut forks failed = refl
finish_cut Summary cut forks failed = refl

-- an exhausted search is answered by its listing
exhausted_is : (show : Show) (limit : ℕ) (P : SourceProgram) (out : Bytes) (ls : List Entry) (status : Status) → status ≡ exhausted ls
    → ((lines : List Entry → Type 0) → lines ls → FindsAll show limit lines P out) → WasRun show limit P status out
exhausted_is show limit P out [] status said finds =
    subst (λ s. WasRun show limit P s out) (sym said) (finds (λ ls. ls ≡ []) refl)
exhausted_is show limit P out (e ∷ es) status said finds = by (has_floundered (e ∷ es)) refl
  where
    Says : Status → Type 0
    Says s = WasRun show limit P s out

    by : (b : Bool) → has_floundered (e ∷ es) ≡ b → Says status
    by true is = subst Says (sym (said ∙ ap (λ b. if b then Floundered else Answers) is)) (finds (λ ls. has_floundered ls ≡ true) is)
    by false is = subst Says (sym (said ∙ ap (λ b. if b then Floundered else Answers) is)) (finds AreAnswers ((λ q. cc), is))

-- what was found is answered by what is written of it, and the status goes with that
pub was_run : (show : Show) (limit : ℕ) (S : SourceProgram) (P : Program) (f : Found) (status : Status) (out : Bytes) → IsLifted S P
    → IsFound P limit f → out ≡ shown show (listed f) (finish show f) → status ≡ status_for f.cut (listed f) → WasRun show limit S status out
was_run show limit S P f status out lifted finds is said = by f.cut refl
  where
    ls : List Entry
    ls = listed f

    found : IsFound (lift S) limit f
    found = subst (λ Q. IsFound Q limit f) lifted.is finds

    lists : SourceListing S limit ls
    lists = (lifting_keeps S limit ls lifted.numbered).1 found.listing

    by : (o : Option goal.Cut.Cut) → f.cut ≡ o → WasRun show limit S status out
    by None at =
        let end : walks.IsComplete (lift S) limit f = subst (IsEnd (lift S) limit f) at found.end in
        let ends : finish show f ≡ completed show f.forks f.failed =
        finish_is show f ∙ ap (λ o. finish_at show o f.forks f.failed) at ∙ finish_none show f.forks f.failed in
        exhausted_is show limit S out ls status (said ∙ ap (λ o. status_for o ls) at)
        (λ lines has. record {
          listing = ls;
          forks = end.forks;
          failed = end.failed;
          lists = lists;
          exhausted = (exhausted_alike S limit lifted.numbered).1 end.exhausted;
          numbers = end.numbers;
          written = is ∙ ap (shown show ls) ends ∙ same_counts show ls f.forks f.failed end.forks end.failed end.forks_kept end.failed_kept;
          has = has;
        })
    by (Some cut) at =
        let end : IsEnd (lift S) limit f (Some cut) = subst (IsEnd (lift S) limit f) at found.end in
        let ends : finish show f ≡ limit_met =
        finish_is show f ∙ ap (λ o. finish_at show o f.forks f.failed) at ∙ finish_cut show cut f.forks f.failed in
        subst (λ s. WasRun show limit S s out) (sym (said ∙ ap (λ o. status_for o ls) at)) (record {
          listing = ls;
          cut = end.0;
          lists = lists;
          over = end.2;
          written = is ∙ ap (shown show ls) ends;
        })

-- whoever finds all finds what is wanted
pub found_wanted : {E : Type 0} (P : Program) (limit : ℕ) (wanted : Option ℕ) (r : Result Found E) → IfOk r (IsFound P limit)
    → IfOk r (Finds P limit wanted)
found_wanted P limit None (Ok found) is = is
found_wanted P limit (Some count) (Ok found) is = inl is
found_wanted P limit wanted (Err e) is = tt

-- the status of first answers, as it is found by a look at them
some_lines : (n : ℕ) → nat_eq (suc n) 0 ≡ false
some_lines n = grind (arith, nat_tests)

seen_is : (end : End) (es : List Entry) → status_seen end (length es) (has_floundered es) ≡ first_status end es
seen_is (ends.Within step) es = refl
seen_is ends.Complete [] = refl
seen_is ends.Complete (e ∷ es) =
    ap (λ (b : Bool). if b then NoAnswer else told_status (has_floundered (e ∷ es))) (some_lines (length es))
seen_is ends.LimitMet es = refl

-- the first answers are told, and the status goes with them
pub tells_first : (count limit : ℕ) (S : SourceProgram) (P : Program) (first : first_answers.First) (status : Status) → IsLifted S P
    → IsFirstOf P limit count first → status ≡ status_seen first.end first.lines first.floundered → TellsFirst count limit S status first.text
tells_first count limit S P first status lifted is said = record {
  told = is.told;
  ending = first.end;
  is_told = subst (λ Q. IsTold Q limit count first.end is.told) lifted.is is.is_told;
  same = λ step ls. lifting_keeps S step ls lifted.numbered;
  written = is.text;
  status_is = said
      ∙ ap (λ n. status_seen first.end n first.floundered) is.lines
      ∙ ap (status_seen first.end (length is.told)) is.floundered
      ∙ seen_is first.end is.told;
}

-- A status under which no program is answered.
is_bad : Status → Bool
is_bad Usage = true
is_bad Refused = true
is_bad ReadFault = true
is_bad WriteFault = true
is_bad Memory = true
is_bad other = false

told_not_bad : (b : Bool) → is_bad (if b then Floundered else Answers) ≡ false
unfolding is_bad
told_not_bad true = refl
told_not_bad false = refl

never_bad : (end : End) (es : List Entry) → is_bad (first_status end es) ≡ false
unfolding is_bad
never_bad (ends.Within step) es = told_not_bad (has_floundered es)
never_bad ends.Complete [] = refl
never_bad ends.Complete (e ∷ es) = told_not_bad (has_floundered (e ∷ es))
never_bad ends.LimitMet es = refl

not_bad : (question : Question) (bytes : Bytes) (P : SourceProgram) (status : Status) (out : Bytes) → is_bad status ≡ true
    → IsReply question bytes P status out → ⊥
unfolding is_bad
not_bad (Run show limit) bytes P Usage out bad w = w
not_bad (Run show limit) bytes P Refused out bad w = w
not_bad (Run show limit) bytes P ReadFault out bad w = w
not_bad (Run show limit) bytes P WriteFault out bad w = w
not_bad (Run show limit) bytes P Memory out bad w = w
not_bad (Run show limit) bytes P Answers out bad w = true≢false (sym bad)
not_bad (Run show limit) bytes P NoAnswer out bad w = true≢false (sym bad)
not_bad (Run show limit) bytes P Floundered out bad w = true≢false (sym bad)
not_bad (Run show limit) bytes P Limit out bad w = true≢false (sym bad)
not_bad Check bytes P Usage out bad w = w
not_bad Check bytes P Refused out bad w = w
not_bad Check bytes P ReadFault out bad w = w
not_bad Check bytes P WriteFault out bad w = w
not_bad Check bytes P Memory out bad w = w
not_bad Check bytes P Answers out bad w = true≢false (sym bad)
not_bad Check bytes P NoAnswer out bad w = true≢false (sym bad)
not_bad Check bytes P Floundered out bad w = true≢false (sym bad)
not_bad Check bytes P Limit out bad w = true≢false (sym bad)
not_bad (Explain place limit) bytes P Usage out bad w = w
not_bad (Explain place limit) bytes P Refused out bad w = w
not_bad (Explain place limit) bytes P ReadFault out bad w = w
not_bad (Explain place limit) bytes P WriteFault out bad w = w
not_bad (Explain place limit) bytes P Memory out bad w = w
not_bad (Explain place limit) bytes P Answers out bad w = true≢false (sym bad)
not_bad (Explain place limit) bytes P NoAnswer out bad w = true≢false (sym bad)
not_bad (Explain place limit) bytes P Floundered out bad w = true≢false (sym bad)
not_bad (Explain place limit) bytes P Limit out bad w = true≢false (sym bad)
not_bad (Tree limit) bytes P Usage out bad w = w
not_bad (Tree limit) bytes P Refused out bad w = w
not_bad (Tree limit) bytes P ReadFault out bad w = w
not_bad (Tree limit) bytes P WriteFault out bad w = w
not_bad (Tree limit) bytes P Memory out bad w = w
not_bad (Tree limit) bytes P Answers out bad w = true≢false (sym bad)
not_bad (Tree limit) bytes P NoAnswer out bad w = true≢false (sym bad)
not_bad (Tree limit) bytes P Floundered out bad w = true≢false (sym bad)
not_bad (Tree limit) bytes P Limit out bad w = true≢false (sym bad)
not_bad Lint bytes P Usage out bad w = w
not_bad Lint bytes P Refused out bad w = w
not_bad Lint bytes P ReadFault out bad w = w
not_bad Lint bytes P WriteFault out bad w = w
not_bad Lint bytes P Memory out bad w = w
not_bad Lint bytes P Answers out bad w = true≢false (sym bad)
not_bad Lint bytes P NoAnswer out bad w = true≢false (sym bad)
not_bad Lint bytes P Floundered out bad w = true≢false (sym bad)
not_bad Lint bytes P Limit out bad w = true≢false (sym bad)
not_bad (First count limit) bytes P status out bad w =
    true≢false (sym bad ∙ ap is_bad w.status_is ∙ never_bad w.ending w.told)

-- what a program is answered with is what its text is
replied : (question : Question) (P : SourceProgram) (status : Status) (bytes out : Bytes) → Reads bytes P → IsReply question bytes P status out
    → WasAnswered question status bytes out
unfolding is_bad
replied question P Answers bytes out reads w = (P, reads, w)
replied question P NoAnswer bytes out reads w = (P, reads, w)
replied question P Floundered bytes out reads w = (P, reads, w)
replied question P Limit bytes out reads w = (P, reads, w)
replied question P Usage bytes out reads w = absurd (not_bad question bytes P Usage out refl w)
replied question P Refused bytes out reads w = absurd (not_bad question bytes P Refused out refl w)
replied question P ReadFault bytes out reads w = absurd (not_bad question bytes P ReadFault out refl w)
replied question P WriteFault bytes out reads w = absurd (not_bad question bytes P WriteFault out refl w)
replied question P Memory bytes out reads w = absurd (not_bad question bytes P Memory out refl w)

pub answered_by : {E : Type 0} (question : Question) (P : Program) (r : Result Reply E) (bytes : Bytes) → IsLiftedFrom bytes P
    → ((S : SourceProgram) → IsLifted S P → IfOk r (λ reply. IsReply question bytes S reply.status reply.text))
    → IfOk r (λ reply. WasAnswered question reply.status bytes reply.text)
answered_by question P (Ok reply) bytes (S, reads, same) w =
    replied question S reply.status bytes reply.text reads (w S (record { numbered = numbered_text bytes S reads; is = same }))
answered_by question P (Err e) bytes lifted w = tt

-- The line of a refusal that is not for want of memory.
pub has_line : (o : Option Refusal) (out : Bytes) → IfSome o (λ r. out ≡ refusal_line r) → is_none o ≡ false → IsLineOf o out
has_line None out said e = absurd cc
has_line (Some r) out said e = said

refused_line : (o : Option Refusal) (bytes out : Bytes) → IfSome o (IsRefused bytes) → IsLineOf o out → IsRefusedBy bytes out
refused_line None bytes out is said = absurd said
refused_line (Some r) bytes out is said = (r, is, said)

pub refused_by : {E : Type 0} (question : Question) (r : Result Reply E) (o : Option Refusal) (bytes : Bytes) → IfSome o (IsRefused bytes)
    → IfOk r (λ reply. reply.status ≡ Refused) → IfOk r (λ reply. IsLineOf o reply.text)
    → IfOk r (λ reply. WasAnswered question reply.status bytes reply.text)
refused_by question (Ok reply) o bytes is status line =
    subst (λ s. WasAnswered question s bytes reply.text) (sym status) (refused_line o bytes reply.text is line)
refused_by question (Err e) o bytes is status line = tt
