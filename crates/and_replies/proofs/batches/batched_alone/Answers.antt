use Rattle.std.proofs.Common.{arith, refl, sym, subst, ◌∙◌}
use Rattle.and_batch_text.specs.Views.{spans_of}
use Rattle.and_batch_reader.specs.Opened.{IsBegun, IsOpened}
use Rattle.and_questions.specs.Replied.{IsRunOf}
use Rattle.and_replies.proofs.BatchLemmas.{each_told, joined_opened, refused_batch, spans_count}
use Rattle.and_replies.proofs.batches.batched_alone.Goals as goal

pub one_by_one-requires-clause-beginning : goal.one_by_one-requires-clause-beginning
one_by_one-requires-clause-beginning g c = subst IsBegun c.in-Read.is c.in_ok-refusal.ensures.begun

pub reply_of-requires-clause-few : goal.reply_of-requires-clause-few
reply_of-requires-clause-few g c =
    let ss = c.args.spans.now in
    let few = c.requires.few.few in
    let long = spans_count ss in
    omega (arith, few, long, c.in_ok-texts-in-Read.ensures.len)

pub reply_of-requires-clause-some : goal.reply_of-requires-clause-some
reply_of-requires-clause-some g c =
    let bytes = c.args.bytes.now in
    let ss = c.args.spans.now in
    let texts = c.in_ok-texts-in-Read in
    let batch = subst (IsOpened bytes (spans_of ss)) c.in-Read.is (c.in_ok-refusal.ensures.opened c.requires.few) in
    each_told (IsRunOf c.args.limit) bytes (spans_of ss) texts.texts batch (texts.ensures.len ∙ sym (spans_count ss)) texts.ensures.due

pub returns-in_ok-texts-in-Read : goal.returns-in_ok-texts-in-Read
returns-in_ok-texts-in-Read g c =
    let bytes = c.args.bytes.now in
    let ss = c.args.spans.now in
    let texts = c.in_ok-texts-in-Read in
    let batch = subst (IsOpened bytes (spans_of ss)) c.in-Read.is (c.in_ok-refusal.ensures.opened c.requires.few) in
    joined_opened (IsRunOf c.args.limit) c.reply_of.result bytes ss ss texts.texts refl batch texts.ensures.len texts.ensures.due c.reply_of.ensures.text
    c.reply_of.ensures.status

pub returns-in-Refused : goal.returns-in-Refused
returns-in-Refused g c =
    let bytes = c.args.bytes.now in
    let why = subst (IsOpened bytes (spans_of c.args.spans.now)) c.in-Refused.is (c.in_ok-refusal.ensures.opened c.requires.few) in
    refused_batch (IsRunOf c.args.limit) c.refused.result bytes c.in-Refused.refusal why c.refused.ensures.status c.refused.ensures.text
