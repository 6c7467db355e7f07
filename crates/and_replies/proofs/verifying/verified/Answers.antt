use Rattle.std.proofs.Common.{IfSome, subst, arith}
use Rattle.and_language.specs.Refusals.{IsLiftedFrom, IsRefused}
use Rattle.and_program.specs.Loaded.{program_of}
use Rattle.and_reader.specs.Causes.{refusal_of}
use Rattle.and_replies.proofs.VerifyLemmas.{was_verified, part_refused, document_refused}
use Rattle.and_replies.proofs.verifying.verified.Goals as goal

pub returns-then-bytes-gt-MAX_DOCUMENT : goal.returns-then-bytes-gt-MAX_DOCUMENT
returns-then-bytes-gt-MAX_DOCUMENT c =
    document_refused c.args.bytes.now (refusal_of c.too_large.result) c.refused.result c.too_large.ensures
    c.refused.ensures.status c.refused.ensures.text

pub returns-in_ok-is_proved-in-Ok : goal.returns-in_ok-is_proved-in-Ok
returns-in_ok-is_proved-in-Ok c =
    let P = program_of c.in-Ok.loaded in
    let reads = subst (λ bs. IsLiftedFrom bs P) c.program_part.ensures c.in-Ok.ensures.program in
    was_verified c.args.bytes.now c.divided-place.result P c.in_ok-is_proved-in-Ok.field-0 c.told.result (omega arith) c.divided-place.ensures reads
    c.in_ok-is_proved-in-Ok.ensures c.told.ensures

pub returns-in-Err : goal.returns-in-Err
returns-in-Err c =
    let bytes = c.args.bytes.now in
    let o = refusal_of c.in-Err.refusal in
    let refused = subst (λ bs. IfSome o (IsRefused bs)) c.program_part.ensures c.in-Err.ensures.refused in
    document_refused bytes o c.refused-in-Err.result
    (part_refused bytes c.divided-place.result o (omega arith) c.divided-place.ensures refused)
    c.refused-in-Err.ensures.status c.refused-in-Err.ensures.text
