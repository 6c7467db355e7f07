use Rattle.std.proofs.Common.{false}
use Rattle.and_questions.specs.Replied.{WasAnswered}
use Rattle.and_questions.specs.declared.question.Question.TheVariants.{Run}
use Rattle.and_reports.specs.declared.showing.Show.TheVariants.{Whole}
use Rattle.and_replies.proofs.PartLemmas.{handed_for}
use Rattle.and_replies.proofs.parts.handed_anew.Goals as goal

pub returns : goal.returns
returns g c =
    let reply = c.in_ok-reply.reply in
    handed_for (WasAnswered (Run (Whole false) c.args.limit)) c.handed.result c.args.text.now reply.status reply.text c.in_ok-reply.ensures c.handed.ensures
