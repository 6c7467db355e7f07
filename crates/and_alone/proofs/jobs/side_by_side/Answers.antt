use Rattle.std.proofs.Common.{arith, refl, sym, subst, ◌∙◌}
use Rattle.std.specs.Prelude.{IfOk, IfErr, OnOk, length, ◌≡◌}
use Rattle.and_batch.specs.Working.{IsDueAtEach}
use Rattle.and_batch_text.specs.Refused.{IsBatch, IsBatchRefused}
use Rattle.and_batch_text.specs.Views.{spans_of}
use Rattle.and_batch_reader.specs.Opened.{AreFew, IsRefusedAs}
use Rattle.and_replies.specs.Handed.{IsDue}
use Rattle.and_questions.specs.Replied.{IsRunOf}
use Rattle.and_replies.proofs.BatchLemmas.{each_told, joined_opened, refused_batch, spans_count}
use Rattle.and_alone.proofs.jobs.side_by_side.Goals as goal

pub reply_of-requires-clause-few : goal.reply_of-requires-clause-few
reply_of-requires-clause-few g c =
    let ss = c.args.spans.now in
    let few = c.requires.few.few in
    let long = spans_count ss in
    let len = subst (λ r. IfOk r (λ texts. length texts ≡ length ss)) c.in-Ok.is c.in_ok-texts.ensures.len in
    omega (arith, few, long, len)

pub reply_of-requires-clause-some : goal.reply_of-requires-clause-some
reply_of-requires-clause-some g c =
    let bytes = c.args.bytes.now in
    let ss = c.args.spans.now in
    let due = IsDue (IsRunOf c.args.limit) bytes (spans_of ss) in
    let batch = subst (λ r. OnOk r (AreFew bytes (spans_of ss) → IsBatch bytes (spans_of ss))) c.in-Ok.is c.in_ok-texts.ensures.wanted c.requires.few in
    let len = subst (λ r. IfOk r (λ texts. length texts ≡ length ss)) c.in-Ok.is c.in_ok-texts.ensures.len in
    each_told (IsRunOf c.args.limit) bytes (spans_of ss) c.in-Ok.texts batch (len ∙ sym (spans_count ss))
    (subst (λ r. IfOk r (IsDueAtEach due)) c.in-Ok.is c.in_ok-texts.ensures.due)

pub returns-in-Ok : goal.returns-in-Ok
returns-in-Ok g c =
    let bytes = c.args.bytes.now in
    let ss = c.args.spans.now in
    let due = IsDue (IsRunOf c.args.limit) bytes (spans_of ss) in
    let batch = subst (λ r. OnOk r (AreFew bytes (spans_of ss) → IsBatch bytes (spans_of ss))) c.in-Ok.is c.in_ok-texts.ensures.wanted c.requires.few in
    let len = subst (λ r. IfOk r (λ texts. length texts ≡ length ss)) c.in-Ok.is c.in_ok-texts.ensures.len in
    joined_opened (IsRunOf c.args.limit) c.reply_of.result bytes ss ss c.in-Ok.texts refl batch len
    (subst (λ r. IfOk r (IsDueAtEach due)) c.in-Ok.is c.in_ok-texts.ensures.due) c.reply_of.ensures.text c.reply_of.ensures.status

pub returns-in-Err : goal.returns-in-Err
returns-in-Err g c =
    let bytes = c.args.bytes.now in
    let spans = spans_of c.args.spans.now in
    let why = subst (λ r. IfErr r (λ refusal. AreFew bytes spans → IsRefusedAs (IsBatchRefused bytes) refusal)) c.in-Err.is c.in_ok-texts.ensures.refused
    c.requires.few in
    refused_batch (IsRunOf c.args.limit) c.refused.result bytes c.in-Err.refusal why c.refused.ensures.status c.refused.ensures.text
