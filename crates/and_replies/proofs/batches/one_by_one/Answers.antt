use Rattle.std.proofs.Common.{◌≡◌, [], ◌∷◌, ◌++◌, ◌∙◌, sym}
use Rattle.and_batch_text.specs.Views.{spans_of}
use Rattle.and_replies.specs.Handed.{IsDue}
use Rattle.and_questions.specs.Replied.{IsRunOf}
use Rattle.and_replies.proofs.BatchLemmas.{went_well, count_pushed, due_pushed}
use Rattle.and_replies.proofs.batches.one_by_one.Goals as goal

pub loop-number-preserved : goal.loop-number-preserved
loop-number-preserved g c =
    let i = c.loop-number.invariant in
    let texts = c.loop-number.texts in
    let number = c.loop-number.number in
    let part = c.in_ok-part.part in
    let due = IsDue (IsRunOf c.args.limit) c.args.bytes.now (spans_of c.args.spans.now) in
    let put = went_well c.push.result (c.push.new.self ≡ texts ++ part.handed ∷ []) (sym c.is_err.ensures.value ∙ c.if-is_err.false)
    c.push.ensures.ok in
    record {
      count = count_pushed texts c.push.new.self part.handed number put i.count;
      due = due_pushed due texts c.push.new.self part.handed number put i.count i.due (λ batch less. c.in_ok-part.ensures.handed batch);
      kept = c.in_ok-part.ensures.kept;
    }
