-- What a document is answered with.
use Rattle.std.proofs.Common.{ℕ, ◌≡◌, ◌≤◌, ◌↔◌, Bool, true, false, List, length, take, Option, Some, None, IsNone, IfSome, IfOk, Result, Ok, Err}
use Rattle.std.proofs.Common.{refl, sym, ap, subst, arith, rules, inl, inr}
use Rattle.std.specs.List.{between}
use Rattle.std.proofs.lemmas.Bool.{cases_lt}
use Rattle.std.proofs.lemmas.Slice.{between_to_end}
use Rattle.and_model.specs.Lines.{Bytes}
use Rattle.and_model.specs.Programs.{Program}
use Rattle.and_language.specs.Refusals.{IsLiftedFrom, Refusal, IsRefused}
use Rattle.and_proof.specs.Documents.{IsMark}
use Rattle.and_proof.specs.Proofs.{ProofText}
use Rattle.and_proof.proofs.Marks.{none_at_end}
use Rattle.and_questions.specs.Replied.{IsLineOf}
use Rattle.and_questions.specs.Verified.{IsDivided, IsDocument, IsDocumentRefused, IsProved, WasVerified, by_program, line_of, program_part, status_of}
use Rattle.and_questions.specs.declared.reply.Reply.{Reply}
use Rattle.and_questions.specs.declared.question.TheConstants.{MAX_DOCUMENT}
use Rattle.and_status.specs.declared.status.Status.TheVariants.{Refused}

-- what was found is where the document is divided
pub is_divided : (bytes : Bytes) (r : Option ℕ) → IfSome r (IsMark bytes) → IfSome r (λ place. (other : ℕ) → IsMark bytes other → other ≤ place)
    → (IsNone r → (place : ℕ) → IsMark bytes place → ⊥) → IsDivided bytes r
is_divided bytes None mark last none = none (search rules)
is_divided bytes (Some place) mark last none = (mark, last)

-- a mark begins within the bytes
mark_within : (bytes : Bytes) (place : ℕ) → IsMark bytes place → place ≤ length bytes
mark_within bytes place m = elim (cases_lt place (length bytes)) [
  | inl below ↦ omega arith
  | inr past ↦ absurd (none_at_end bytes place past m)
]

pub divided_within : (bytes : Bytes) (o : Option ℕ) (place : ℕ) → o ≡ Some place → IsDivided bytes o → place ≤ length bytes
divided_within bytes o place is d = let both : IsDivided bytes (Some place) = subst (IsDivided bytes) is d in mark_within bytes place both.0

-- the program part is what stands before the proof part
pub part_before : (bytes : Bytes) (o : Option ℕ) (place : ℕ) → o ≡ Some place → take place bytes ≡ program_part bytes o
part_before bytes o place is = ap (program_part bytes) (sym is)

-- a check of the proof part tells whether it proves something
pub part_proved : {E : Type 0} (P : Program) (bytes : Bytes) (o : Option ℕ) (place : ℕ) (r : Result Bool E) → o ≡ Some place → IsDivided bytes o
    → IfOk r (λ holds. (holds ≡ true) ↔ ((code : List ℕ) × ProofText P code (between place (length bytes) bytes)))
    → IfOk r (λ holds. (holds ≡ true) ↔ IsProved P bytes o)
part_proved P bytes o place (Err e) is d checks = tt
part_proved P bytes o place (Ok holds) is d checks =
    let rest = between_to_end bytes place (length bytes) (omega arith) in
    let part = subst (λ xs. (holds ≡ true) ↔ ((code : List ℕ) × ProofText P code xs)) rest checks in
    subst (λ o. (holds ≡ true) ↔ IsProved P bytes o) (sym is) part

pub none_proved : (P : Program) (bytes : Bytes) (o : Option ℕ) → o ≡ None → (false ≡ true) ↔ IsProved P bytes o
none_proved P bytes o is =
    let nothing : (false ≡ true) ↔ IsProved P bytes None = ((λ e. cc), (λ p. absurd p)) in
    subst (λ o. (false ≡ true) ↔ IsProved P bytes o) (sym is) nothing

-- the verdict is told of the document
pub was_verified : {E : Type 0} (bytes : Bytes) (o : Option ℕ) (P : Program) (holds : Bool) (r : Result Reply E)
    → length bytes ≤ MAX_DOCUMENT → IsDivided bytes o
    → IsLiftedFrom (program_part bytes o) P → (holds ≡ true) ↔ IsProved P bytes o
    → IfOk r (λ reply. (reply.status ≡ status_of holds) × (reply.text ≡ line_of holds)) → IfOk r (λ reply. WasVerified reply.status bytes reply.text)
was_verified bytes o P holds (Err e) fits d reads proved told = tt
was_verified bytes o P true (Ok reply) fits d reads proved told =
    let document : IsDocument bytes (λ P place. IsProved P bytes place) =
    record { place = o; program = P; fits = fits; divided = d; reads = reads; has = proved.0 refl } in
    subst (λ s. WasVerified s bytes reply.text) (sym told.0) (document, told.1)
was_verified bytes o P false (Ok reply) fits d reads proved told =
    let document : IsDocument bytes (λ P place. IsProved P bytes place → ⊥) =
    record { place = o; program = P; fits = fits; divided = d; reads = reads; has = λ p. (let bad : false ≡ true = proved.1 p in cc) } in
    subst (λ s. WasVerified s bytes reply.text) (sym told.0) (document, told.1)

-- a refusal of the program part is one of the document
pub part_refused : (bytes : Bytes) (place : Option ℕ) (o : Option Refusal) → length bytes ≤ MAX_DOCUMENT → IsDivided bytes place
    → IfSome o (IsRefused (program_part bytes place)) → IfSome o (IsDocumentRefused bytes)
part_refused bytes place None fits d is = tt
part_refused bytes place (Some r) fits d is = by_program place r fits d is

-- and its line is told
refused_line : (bytes out : Bytes) (o : Option Refusal) → IfSome o (IsDocumentRefused bytes) → IsLineOf o out → WasVerified Refused bytes out
refused_line bytes out None is said = absurd said
refused_line bytes out (Some r) is said = (r, is, said)

pub document_refused : {E : Type 0} (bytes : Bytes) (o : Option Refusal) (r : Result Reply E) → IfSome o (IsDocumentRefused bytes)
    → IfOk r (λ reply. reply.status ≡ Refused) → IfOk r (λ reply. IsLineOf o reply.text) → IfOk r (λ reply. WasVerified reply.status bytes reply.text)
document_refused bytes o (Err e) is status line = tt
document_refused bytes o (Ok reply) is status line =
    subst (λ s. WasVerified s bytes reply.text) (sym status) (refused_line bytes reply.text o is line)
