-- From an answer to what was read and written.
use Rattle.std.proofs.Common.{ℕ, zero, suc, take, ◌≡◌, ◌≢◌, ◌<◌, ◌≤◌, Bool, true, false, [], ◌∷◌, ◌++◌, length, length-append, refl, sym, ap, ◌∙◌, subst}
use Rattle.std.proofs.Common.{arith, Option, Some, None, ◌+◌, ◌⊎◌, inl, inr, true≢false}
use Rattle.and_model.specs.Lines.{Bytes}
use Rattle.and_model.specs.declared.limits.TheConstants.{MAX_BYTES, MAX_LIMIT}
use Rattle.and_source.specs.Source.{SourceProgram}
use Rattle.and_language.specs.Tokens.{newlines}
use Rattle.and_language.specs.Refusals.{Reads, IsRefused, Refusal, at, too_big}
use Rattle.and_syntax.specs.Tables.{source}
use Rattle.and_batch_text.specs.Refused.{IsBatchRefused}
use Rattle.and_reader.specs.RefusalLine.{refusal_line}
use Rattle.and_reader.proofs.Judgement.{read_not_refused}
use Rattle.and_io.specs.Flow.{AreAll}
use Rattle.and_io.specs.ReadAll.{ReadsUpTo, TookUpTo, TookAtMost}
use Rattle.and_io.specs.declared.reading.ReadAll.{ReadAll}
use Rattle.and_io.specs.declared.reading.ReadAll.TheVariants as reads
use Rattle.and_status.specs.declared.status.Status.{Status}
use Rattle.and_status.specs.declared.status.Status.TheVariants.{Answers, NoAnswer, Usage, Refused, ReadFault, WriteFault, Limit, Memory, Floundered}
use Rattle.and_reports.specs.declared.showing.Show.{Show}
use Rattle.and_questions.specs.Batched.{IsBatched, WasBatched}
use Rattle.and_questions.specs.declared.question.Question.{Question}
use Rattle.and_questions.specs.declared.question.Question.TheVariants.{Run}
use Rattle.and_questions.specs.declared.question.Request.{Request}
use Rattle.and_questions.specs.declared.question.Request.TheVariants.{Text, Document, Batch}
use Rattle.and_questions.specs.declared.question.TheConstants.{MAX_DOCUMENT}
use Rattle.and_questions.specs.Replied.{IsRefusedBy, WasReplied, WasAnswered, IsAllowed, IsAnswer, IsRunOf, most_of}
use Rattle.and_questions.specs.Verified.{IsDocumentRefused, WasVerified, too_long as document_too_long, by_program}
use Rattle.and_obeying.specs.Answered.{Answered, GivesPrefix, Told, Took, IsComplete, bytes_read}

-- Without an answer to the bytes of a source there is no such status.
pub record IsSilent (request : Request) (bytes out : Bytes) : Type 0 where
  pub usage : IsAnswer request Usage bytes out → ⊥
  pub read_fault : IsAnswer request ReadFault bytes out → ⊥
  pub write_fault : IsAnswer request WriteFault bytes out → ⊥
  pub memory : IsAnswer request Memory bytes out → ⊥

silent : (request : Request) (bytes out : Bytes) → IsSilent request bytes out
silent (Text question) bytes out = record { usage = λ w. w; read_fault = λ w. w; write_fault = λ w. w; memory = λ w. w }
silent Document bytes out = record { usage = λ w. w; read_fault = λ w. w; write_fault = λ w. w; memory = λ w. w }
silent (Batch jobs limit) bytes out = record { usage = λ w. w; read_fault = λ w. w; write_fault = λ w. w; memory = λ w. w }

module _ (request : Request) (old new bytes out : Bytes) where
  -- where an answer was written, so it is
  pub was_written : (status : Status) → IsAnswer request status bytes out → (new ≡ old ++ out)
      → Answered request old new status bytes × (status ≢ ReadFault)
  was_written Answers w g = ((out, w, g), λ e. cc)
  was_written NoAnswer w g = ((out, w, g), λ e. cc)
  was_written Usage w g = absurd ((silent request bytes out).usage w)
  was_written Refused w g = ((out, w, g), λ e. cc)
  was_written ReadFault w g = absurd ((silent request bytes out).read_fault w)
  was_written WriteFault w g = absurd ((silent request bytes out).write_fault w)
  was_written Limit w g = ((out, w, g), λ e. cc)
  was_written Memory w g = absurd ((silent request bytes out).memory w)
  was_written Floundered w g = ((out, w, g), λ e. cc)

  -- the reply was written, or a prefix of it
  abbrev Written : Status → Type 0
  Written result = Answered request old new result bytes × (result ≢ ReadFault)

  all_written : (status result : Status) → IsAnswer request status bytes out
      → (result ≢ WriteFault → (result ≡ status) × (new ≡ old ++ out))
      → result ≢ WriteFault → Written result
  all_written status result w ok went =
      let k = ok went in was_written result (subst (λ s. IsAnswer request s bytes out) (sym k.0) w) k.1

  pub responded : (status result : Status) → IsAnswer request status bytes out
      → (result ≢ WriteFault → (result ≡ status) × (new ≡ old ++ out))
      → (result ≡ WriteFault → GivesPrefix old new out) → Written result
  responded status WriteFault w ok bad = ((status, out, w, bad refl), λ e. cc)
  responded status Answers w ok bad = all_written status Answers w ok (λ e. cc)
  responded status NoAnswer w ok bad = all_written status NoAnswer w ok (λ e. cc)
  responded status Usage w ok bad = all_written status Usage w ok (λ e. cc)
  responded status Refused w ok bad = all_written status Refused w ok (λ e. cc)
  responded status ReadFault w ok bad = all_written status ReadFault w ok (λ e. cc)
  responded status Limit w ok bad = all_written status Limit w ok (λ e. cc)
  responded status Memory w ok bad = all_written status Memory w ok (λ e. cc)
  responded status Floundered w ok bad = all_written status Floundered w ok (λ e. cc)

pub allowed : (request : Request) (show : Show) (limit : ℕ) → request ≡ Text (Run show limit) → limit ≤ MAX_LIMIT → IsAllowed request
allowed request show limit is small = subst IsAllowed (sym is) small

-- where memory was wanting nothing was given
pub memory_gave_none : (request : Request) (old new bytes : Bytes) (status : Status) → Answered request old new status bytes → status ≡ Memory → new ≡ old
memory_gave_none request old new bytes status a e = subst (λ s. Answered request old new s bytes) e a

-- A text that reads as a program is not refused.
pub never_refused : (show : Show) (limit : ℕ) (old new : Bytes) (P : SourceProgram) (bytes : Bytes) (status : Status) → Reads bytes P
    → Answered (Text (Run show limit)) old new status bytes → status ≢ Refused
never_refused show limit old new P bytes status reads answered e =
    let asked : Request = Text (Run show limit) in
    let refusal : Answered asked old new Refused bytes = subst (λ s. Answered asked old new s bytes) e answered in
    read_not_refused bytes P refusal.1.0 reads refusal.1.1

-- Of bytes that are more than there may be, the first ones beyond that tell as much as all.
module _ (most : ℕ) (bytes text rest : Bytes) (joined : bytes ≡ text ++ rest) (large : most < length text) where
  taken : (n : ℕ) (xs ys : Bytes) → n < length xs → take n (xs ++ ys) ≡ take n xs
  taken zero xs ys h = refl
  taken (suc n) [] ys h = absurd (omega arith)
  taken (suc n) (x ∷ xs) ys h = ap (λ zs. x ∷ zs) (taken n xs ys (omega arith))

  same_place : at text most (too_big source) ≡ at bytes most (too_big source)
  same_place =
      ap (λ zs. record { cause = too_big source; line = suc (newlines zs) }) (sym (taken most text rest large) ∙ ap (take most) (sym joined))

  longer : most < length bytes
  longer = omega (arith, large, ap length joined, length-append text rest)

-- so it is with a text
module _ (bytes text rest : Bytes) (joined : bytes ≡ text ++ rest) (large : MAX_BYTES < length text) where
  same_refusal : (r : Refusal) → IsRefused text r → r ≡ at bytes MAX_BYTES (too_big source)
  same_refusal r (IsRefused.too_long h) = same_place MAX_BYTES bytes text rest joined large
  same_refusal r (IsRefused.at_word ws p a c h x y z) = absurd (omega (arith, h))
  same_refusal r (IsRefused.at_clause ws us a T s f h x y z u) = absurd (omega (arith, h))
  same_refusal r (IsRefused.at_token ws f h x y) = absurd (omega (arith, h))
  same_refusal r (IsRefused.unended ws h x y z) = absurd (omega (arith, h))
  same_refusal r (IsRefused.without_query ws T h x y z) = absurd (omega (arith, h))
  same_refusal r (IsRefused.with_unknown ws T a u h x y z v) = absurd (omega (arith, h))

  same_line : (line : Bytes) → IsRefusedBy text line → IsRefusedBy bytes line
  same_line line (r, is, said) = (
    at bytes MAX_BYTES (too_big source),
    IsRefused.too_long (longer MAX_BYTES bytes text rest joined large),
    said ∙ ap refusal_line (same_refusal r is),
  )

  no_program : (P : SourceProgram) → Reads text P → ⊥
  no_program P r = let s = r.size in omega (arith, large, s)

  same_reply : (question : Question) (status : Status) (out : Bytes) → WasReplied question status text out → WasReplied question status bytes out
  same_reply question status out (P, reads, w) = absurd (no_program P reads)

  same_due : (question : Question) (status : Status) (out : Bytes) → WasAnswered question status text out → WasAnswered question status bytes out
  same_due question Answers out w = same_reply question Answers out w
  same_due question NoAnswer out w = same_reply question NoAnswer out w
  same_due question Usage out w = w
  same_due question Refused out w = same_line out w
  same_due question ReadFault out w = w
  same_due question WriteFault out w = w
  same_due question Limit out w = same_reply question Limit out w
  same_due question Memory out w = w
  same_due question Floundered out w = same_reply question Floundered out w

-- and with a document
module _ (bytes text rest : Bytes) (joined : bytes ≡ text ++ rest) (large : MAX_DOCUMENT < length text) where
  same_document_refusal : (r : Refusal) → IsDocumentRefused text r → r ≡ at bytes MAX_DOCUMENT (too_big source)
  same_document_refusal r (document_too_long h) = same_place MAX_DOCUMENT bytes text rest joined large
  same_document_refusal r (by_program place s h divided refused) = absurd (omega (arith, h))

  same_verdict : (status : Status) (out : Bytes) → WasVerified status text out → WasVerified status bytes out
  same_verdict Answers out (document, said) = let h = document.fits in absurd (omega (arith, h, large))
  same_verdict NoAnswer out (document, said) = let h = document.fits in absurd (omega (arith, h, large))
  same_verdict Usage out w = w
  same_verdict Refused out (r, is, said) = (
    at bytes MAX_DOCUMENT (too_big source),
    document_too_long (longer MAX_DOCUMENT bytes text rest joined large),
    said ∙ ap refusal_line (same_document_refusal r is),
  )
  same_verdict ReadFault out w = w
  same_verdict WriteFault out w = w
  same_verdict Limit out w = w
  same_verdict Memory out w = w
  same_verdict Floundered out w = w

-- and with a text of several queries
module _ (Replies : Status → Bytes → Bytes → Type 0) (bytes text rest : Bytes) (joined : bytes ≡ text ++ rest) (large : MAX_BYTES < length text) where
  same_batch_refusal : (r : Refusal) → IsBatchRefused text r → r ≡ at bytes MAX_BYTES (too_big source)
  same_batch_refusal r (IsBatchRefused.too_long h) = same_place MAX_BYTES bytes text rest joined large
  same_batch_refusal r (IsBatchRefused.without_query s h has refused) = absurd (omega (arith, h))
  same_batch_refusal r (IsBatchRefused.too_many spans s h has found) = absurd (omega (arith, h))
  same_batch_refusal r (IsBatchRefused.at_query spans k s h has few less read refused) = absurd (omega (arith, h))

  no_batch : (status : Status) (out : Bytes) → IsBatched Replies status text out → ⊥
  no_batch status out w = let s = w.batch.size in omega (arith, large, s)

  same_batch : (status : Status) (out : Bytes) → WasBatched Replies status text out → WasBatched Replies status bytes out
  same_batch Answers out w = absurd (no_batch Answers out w)
  same_batch NoAnswer out w = absurd (no_batch NoAnswer out w)
  same_batch Usage out w = w
  same_batch Refused out (r, is, said) = (
    at bytes MAX_BYTES (too_big source),
    IsBatchRefused.too_long (longer MAX_BYTES bytes text rest joined large),
    said ∙ ap refusal_line (same_batch_refusal r is),
  )
  same_batch ReadFault out w = w
  same_batch WriteFault out w = w
  same_batch Limit out w = absurd (no_batch Limit out w)
  same_batch Memory out w = w
  same_batch Floundered out w = absurd (no_batch Floundered out w)

same_due_of : (request : Request) (bytes text rest : Bytes) → bytes ≡ text ++ rest → most_of request < length text → (status : Status) (out : Bytes)
    → IsAnswer request status text out → IsAnswer request status bytes out
same_due_of (Text question) bytes text rest joined large status out w = same_due bytes text rest joined large question status out w
same_due_of Document bytes text rest joined large status out w = same_verdict bytes text rest joined large status out w
same_due_of (Batch jobs limit) bytes text rest joined large status out w =
    same_batch (IsRunOf limit) bytes text rest joined large status out w

module _ (request : Request) (bytes text rest : Bytes) (joined : bytes ≡ text ++ rest) (large : most_of request < length text) where
  same : (status : Status) (out : Bytes) → IsAnswer request status text out → IsAnswer request status bytes out
  same status out w = same_due_of request bytes text rest joined large status out w

  pub same_answer : (old new : Bytes) (status : Status) → Answered request old new status text → Answered request old new status bytes
  same_answer old new Answers (out, w, g) = (out, same Answers out w, g)
  same_answer old new NoAnswer (out, w, g) = (out, same NoAnswer out w, g)
  same_answer old new Usage a = a
  same_answer old new Refused (out, w, g) = (out, same Refused out w, g)
  same_answer old new ReadFault a = a
  same_answer old new WriteFault (status, due, w, g) = (status, due, same status due w, g)
  same_answer old new Limit (out, w, g) = (out, same Limit out w, g)
  same_answer old new Memory a = a
  same_answer old new Floundered (out, w, g) = (out, same Floundered out w, g)

module _ (request : Request) (old new : Bytes) where
  -- what was read is what was left, or more than there may be
  told_all : (left rest : Option Bytes) (read : ReadAll) (status : Status) → ReadsUpTo (most_of request) left rest read
      → Answered request old new status (bytes_read read) → Told left (Answered request old new status)
  told_all None rest read status r a = tt
  told_all (Some bytes) rest (reads.Whole text) status r a =
      let same : bytes ≡ text = r.1 in subst (λ b. Answered request old new status b) (sym same) a
  told_all (Some bytes) rest (reads.Over text) status r a = same_answer request bytes text r.0.0 r.0.2 (omega (arith, r.1)) old new status a

  pub told : (n : ℕ) → n ≡ most_of request → (left rest : Option Bytes) (read : ReadAll) (status : Status) → ReadsUpTo n left rest read
      → Answered request old new status (bytes_read read) → Told left (Answered request old new status)
  told n is left rest read status r a = told_all left rest read status (subst (λ n. ReadsUpTo n left rest read) is r) a

-- What was read goes to the end, or is more than there may be.
took_all : (most : ℕ) (old new : Bytes) (ended : Type 0) (read : ReadAll) (status : Status) (fact : Bytes → Type 0) → TookUpTo most old new ended read
    → fact (bytes_read read) → Took most old new ended status fact
took_all most old new ended (reads.Whole text) status fact t f = (text, t.0, omega (arith, t.1), (λ a b. inl t.2), f)
took_all most old new ended (reads.Over text) status fact t f = (text, t.0, omega (arith, t.1), (λ a b. inr (omega (arith, t.1))), f)

pub took : (n most : ℕ) → n ≡ most → (old new : Bytes) (ended : Type 0) (read : ReadAll) (status : Status) (fact : Bytes → Type 0)
    → TookUpTo n old new ended read → fact (bytes_read read) → Took most old new ended status fact
took n most is old new ended read status fact t f =
    subst (λ n. Took n old new ended status fact) is (took_all n old new ended read status fact t f)

-- Where reading failed, or memory was wanting, some part was read.
pub took_some : (most : ℕ) (old new : Bytes) (ended : Type 0) (some : ℕ) (status : Status) (fact : Bytes → Type 0) → TookAtMost some old new
    → some ≤ most + 1 → (status ≡ ReadFault) ⊎ (status ≡ Memory) → ((text : Bytes) → fact text) → Took most old new ended status fact
took_some most old new ended some status fact t few is f =
    (t.0, t.1, omega (arith, t.2, few), (λ a b. absurd (elim is [ inl e ↦ a e | inr e ↦ b e ])), f t.0)

-- the statuses of complete searches, and of verdicts
is_complete : Status → Bool
is_complete Answers = true
is_complete NoAnswer = true
is_complete Usage = false
is_complete Refused = false
is_complete ReadFault = false
is_complete WriteFault = false
is_complete Limit = true
is_complete Memory = false
is_complete Floundered = true

complete_is : (status : Status) → IsComplete status → is_complete status ≡ true
unfolding is_complete
complete_is status c = elim c [
  | inl e ↦ ap is_complete e
  | inr d ↦ elim d [ inl e ↦ ap is_complete e | inr d ↦ elim d [ inl e ↦ ap is_complete e | inr e ↦ ap is_complete e ] ]
]

pub memory_incomplete : IsComplete Memory → ⊥
unfolding is_complete
memory_incomplete c = true≢false (sym (complete_is Memory c))

-- With such a status the bytes are as many as there may be.
text_fits : (question : Question) (status : Status) (bytes out : Bytes) → WasReplied question status bytes out → length bytes ≤ MAX_BYTES
text_fits question status bytes out (P, reads, w) = reads.size

answer_fits : (request : Request) (status : Status) (bytes out : Bytes) → is_complete status ≡ true → IsAnswer request status bytes out
    → length bytes ≤ most_of request
unfolding is_complete
answer_fits (Text question) Answers bytes out c w = text_fits question Answers bytes out w
answer_fits (Text question) NoAnswer bytes out c w = text_fits question NoAnswer bytes out w
answer_fits (Text question) Limit bytes out c w = text_fits question Limit bytes out w
answer_fits (Text question) Floundered bytes out c w = text_fits question Floundered bytes out w
answer_fits Document Answers bytes out c (document, said) = document.fits
answer_fits Document NoAnswer bytes out c (document, said) = document.fits
answer_fits Document Limit bytes out c w = absurd w
answer_fits Document Floundered bytes out c w = absurd w
answer_fits (Batch jobs limit) Answers bytes out c w = w.batch.size
answer_fits (Batch jobs limit) NoAnswer bytes out c w = w.batch.size
answer_fits (Batch jobs limit) Limit bytes out c w = w.batch.size
answer_fits (Batch jobs limit) Floundered bytes out c w = w.batch.size
answer_fits request Usage bytes out c w = absurd (true≢false (sym c))
answer_fits request Refused bytes out c w = absurd (true≢false (sym c))
answer_fits request ReadFault bytes out c w = absurd (true≢false (sym c))
answer_fits request WriteFault bytes out c w = absurd (true≢false (sym c))
answer_fits request Memory bytes out c w = absurd (true≢false (sym c))

answered_fits : (request : Request) (old new bytes : Bytes) (status : Status) → is_complete status ≡ true → Answered request old new status bytes
    → length bytes ≤ most_of request
unfolding is_complete
answered_fits request old new bytes Answers c (out, w, g) = answer_fits request Answers bytes out c w
answered_fits request old new bytes NoAnswer c (out, w, g) = answer_fits request NoAnswer bytes out c w
answered_fits request old new bytes Usage c a = absurd a
answered_fits request old new bytes Refused c a = absurd (true≢false (sym c))
answered_fits request old new bytes ReadFault c a = absurd (true≢false (sym c))
answered_fits request old new bytes WriteFault c a = absurd (true≢false (sym c))
answered_fits request old new bytes Limit c (out, w, g) = answer_fits request Limit bytes out c w
answered_fits request old new bytes Memory c a = absurd (true≢false (sym c))
answered_fits request old new bytes Floundered c (out, w, g) = answer_fits request Floundered bytes out c w

-- A complete answer is to all that the source had.
all_to_the_end : (request : Request) (old new : Bytes) (left rest : Option Bytes) (before after : Bytes) (ended : Type 0) (read : ReadAll) (status : Status)
    → ReadsUpTo (most_of request) left rest read → TookUpTo (most_of request) before after ended read
    → Answered request old new status (bytes_read read) → IsComplete status → ended × AreAll rest []
all_to_the_end request old new left rest before after ended (reads.Whole text) status r t a c = (t.2, r.2)
all_to_the_end request old new left rest before after ended (reads.Over text) status r t a c =
    let small = answered_fits request old new text status (complete_is status c) a in
    absurd (omega (arith, t.1, small))

pub to_the_end : (n : ℕ) (request : Request) → n ≡ most_of request → (old new : Bytes) (left rest : Option Bytes) (before after : Bytes) (ended : Type 0)
    (read : ReadAll) (status : Status) → ReadsUpTo n left rest read → TookUpTo n before after ended read
    → Answered request old new status (bytes_read read) → IsComplete status → ended × AreAll rest []
to_the_end n request is old new left rest before after ended read status r t a c =
    all_to_the_end request old new left rest before after ended read status (subst (λ n. ReadsUpTo n left rest read) is r)
    (subst (λ n. TookUpTo n before after ended read) is t) a c
