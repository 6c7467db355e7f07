-- What queries are answered with, one after another.
use Rattle.std.proofs.Common.{ℕ, ◌≡◌, ◌<◌, List, length, Some, Result, Ok, Err, sym, subst}
use Rattle.std.specs.Option.{IfSome}
use Rattle.std.specs.Result.{IfOk}
use Rattle.and_model.specs.Lines.{Bytes}
use Rattle.and_model.specs.Programs.{Program}
use Rattle.and_batch_text.specs.Queries.{Span}
use Rattle.and_batch_text.specs.Refused.{IsBatch}
use Rattle.and_batch_text.specs.Singles.{single}
use Rattle.and_language.specs.Refusals.{IsLiftedFrom}
use Rattle.and_source.specs.Source.{SourceProgram}
use Rattle.and_kept_table.specs.KeptTables.{IsKeptOn}
use Rattle.and_kept_table.specs.declared.kept.KeptTable.{KeptTable}
use Rattle.and_program.specs.Loaded.{program_of}
use Rattle.and_program.specs.declared.loaded.Loaded.{Loaded}
use Rattle.and_reader.specs.Beginning.{IsBeginning, IsGoneOn, StaysOn, whole_ground, beginning_ground}
use Rattle.and_reader.specs.declared.kept.Beginning.{Beginning}
use Rattle.and_reader.specs.declared.kept.GoneOn.{GoneOn}
use Rattle.and_reader.specs.declared.kept.GoneOn.TheVariants as gone
use Rattle.and_reader.specs.declared.kept.Whole.{Whole}
use Rattle.and_replies.specs.Handed.{IsDue, IsHanded, IsHandedFor, handed}
use Rattle.and_replies.specs.Keeping.{IsKept}
use Rattle.and_questions.specs.Lifted.{IsLifted}
use Rattle.and_questions.specs.Replied.{IsReply, WasAnswered, WasReplied}
use Rattle.and_questions.specs.declared.reply.Reply.{Reply}
use Rattle.and_replies.specs.declared.parts.Kept.{Kept}
use Rattle.and_replies.specs.declared.parts.Part.{Part}
use Rattle.and_questions.specs.declared.question.Question.{Question}
use Rattle.and_status.specs.declared.status.Status.{Status}
use Rattle.and_replies.proofs.BatchLemmas.{part_given}
use Rattle.and_replies.proofs.TopLemmas.{answered_by}

pub handed_for : {E : Type 0} (Replies : Status → Bytes → Bytes → Type 0) (r : Result Bytes E) (text : Bytes) (status : Status) (out : Bytes)
    → Replies status text out → IfOk r (λ given. given ≡ handed status out) → IfOk r (IsHandedFor Replies text)
handed_for Replies (Ok given) text status out w is = (status, out, w, is)
handed_for Replies (Err e) text status out w is = tt

-- a program's text is answered with the program's reply
pub handed_by : (question : Question) (l : Loaded) (P : Program) (reply : Reply) (text given : Bytes) → IsLiftedFrom text P → P ≡ program_of l
    → ((S : SourceProgram) → IsLifted S (program_of l) → IsReply question text S reply.status reply.text) → given ≡ handed reply.status reply.text
    → IsHandedFor (WasAnswered question) text given
handed_by question l P reply text given lifted same w is = (
  reply.status,
  reply.text,
  answered_by {E = Unit {0}} question (program_of l) (Ok reply) text (subst (IsLiftedFrom text) same lifted) w,
  is,
)

pub part_handed : {E : Type 0} (question : Question) (r : Result Part E) (bytes : Bytes) (spans : List Span) (k : ℕ) (text : Bytes) → k < length spans
    → text ≡ single bytes spans k → IfOk r (λ p. IsHandedFor (WasAnswered question) text p.handed) → IsBatch bytes spans
    → IfOk r (λ p. IsHanded (WasReplied question) bytes spans k p.handed)
part_handed question (Ok p) bytes spans k text less is (status, out, w, said) batch =
    part_given {E = Unit {0}} question (Ok p.handed) bytes spans k status text out less is w said batch
part_handed question (Err e) bytes spans k text less is w batch = tt

pub part_due : {E : Type 0} (Replies : Status → Bytes → Bytes → Type 0) (r : Result Part E) (bytes : Bytes) (spans : List Span) (k : ℕ)
    → (IsBatch bytes spans → IfOk r (λ p. IsHanded Replies bytes spans k p.handed)) → IfOk r (λ p. IsDue Replies bytes spans k p.handed)
part_due Replies (Ok p) bytes spans k given_by = λ batch less. given_by batch
part_due Replies (Err e) bytes spans k given_by = tt

-- ---- what is kept

pub kept_again : (b : Beginning) (table : KeptTable) (w : Whole) → IsBeginning b → beginning_ground b ≡ whole_ground w → IsKeptOn (whole_ground w) table
    → IsKept (record { beginning = b; table = Some table })
kept_again b table w begun same k = (begun, subst (λ g. IfSome (Some table) (IsKeptOn g)) (sym same) k)

-- what was kept serves the whole
pub whole_kept : (k : Kept) (r : GoneOn) (w : Whole) → IsKept k → r ≡ gone.Whole w → StaysOn (beginning_ground k.beginning) r
    → IfSome k.table (IsKeptOn (whole_ground w))
whole_kept k r w kept is stays =
    let same : whole_ground w ≡ beginning_ground k.beginning = subst (StaysOn (beginning_ground k.beginning)) is stays in
    subst (λ g. IfSome k.table (IsKeptOn g)) (sym same) kept.1

-- and goes with a beginning that is left
pub left_kept : (k : Kept) (text : Bytes) (r : GoneOn) (b : Beginning) → IsKept k → r ≡ gone.Left b → StaysOn (beginning_ground k.beginning) r
    → IsGoneOn text r → IsKept (record { beginning = b; table = k.table })
left_kept k text r b kept is stays went =
    let same : beginning_ground b ≡ beginning_ground k.beginning = subst (StaysOn (beginning_ground k.beginning)) is stays in
    (subst (IsGoneOn text) is went, subst (λ g. IfSome k.table (IsKeptOn g)) (sym same) kept.1)
