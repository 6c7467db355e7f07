use Rattle.std.proofs.Common.{false, arith, ◌∙◌}
use Rattle.and_batch_text.specs.Singles.{single}
use Rattle.and_batch_text.specs.Views.{spans_of}
use Rattle.and_questions.specs.declared.question.Question.TheVariants.{Run}
use Rattle.and_reports.specs.declared.showing.Show.TheVariants.{Whole}
use Rattle.and_replies.proofs.BatchLemmas.{spans_count}
use Rattle.and_replies.proofs.PartLemmas.{part_handed}
use Rattle.and_replies.proofs.parts.part_of.Goals as goal

pub returns-clause-handed : goal.returns-clause-handed
returns-clause-handed g c = λ batch.
    let ss = c.args.spans.now in
    let long = spans_count ss in
    let alone = ◌∙◌ {c = single c.args.bytes.now (spans_of ss) c.args.number} c.as_slice.ensures.value c.in_ok-text.ensures in
    part_handed (Run (Whole false) c.args.limit) c.next_part.result c.args.bytes.now (spans_of ss) c.args.number c.as_slice.result.now
    (omega (arith, long, c.requires.number)) alone c.next_part.ensures.handed batch
