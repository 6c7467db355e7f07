use Rattle.std.proofs.Common.{◌∙◌, ◌++◌, ◌||◌, ap, drop, get_or, nat_eq}
use Rattle.and_questions.specs.Batched.{query_line}
use Rattle.and_replies.specs.declared.batches.Seen.{Seen}
use Rattle.and_replies.proofs.BatchLemmas.{text_more, some_more}
use Rattle.and_replies.proofs.batches.reply_of.Goals as goal

pub loop-number-preserved : goal.loop-number-preserved
loop-number-preserved c =
    let i = c.loop-number.invariant in
    let ts = c.args.texts.now in
    let k = c.loop-number.number in
    let t = c.at.result.now in
    let out = c.loop-number.out in
    let seen = c.loop-number.seen in
    let new = c.with-seen.result in
    let same = c.bytes-handed.ensures in
    record {
      text = text_more ts k t out c.write_part.new.out c.at.ensures i.text (c.in_ok-write_part.ensures ∙ ap (λ b. out ++ query_line k ++ drop 1 b) same);
      limit = some_more 6 ts k t seen.limit new.limit c.at.ensures i.limit
          (ap (λ (s : Seen). s.limit) c.with-seen.ensures ∙ ap (λ b. seen.limit || nat_eq (get_or b 0 0) 6) same);
      floundered = some_more 8 ts k t seen.floundered new.floundered c.at.ensures i.floundered
          (ap (λ (s : Seen). s.floundered) c.with-seen.ensures ∙ ap (λ b. seen.floundered || nat_eq (get_or b 0 0) 8) same);
      none = some_more 1 ts k t seen.none new.none c.at.ensures i.none
          (ap (λ (s : Seen). s.none) c.with-seen.ensures ∙ ap (λ b. seen.none || nat_eq (get_or b 0 0) 1) same);
    }
