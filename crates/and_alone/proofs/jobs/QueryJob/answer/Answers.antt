use Rattle.and_batch_text.specs.Views.{spans_of}
use Rattle.and_questions.specs.Replied.{IsRunOf}
use Rattle.and_replies.proofs.PartLemmas.{part_due}
use Rattle.and_alone.proofs.jobs.QueryJob.answer.Goals as goal

pub returns-clause-due : goal.returns-clause-due
returns-clause-due c =
    let job = c.args.self.now in part_due (IsRunOf job.limit) c.part_of.result job.bytes.now (spans_of job.spans.now) c.args.number c.part_of.ensures.handed
