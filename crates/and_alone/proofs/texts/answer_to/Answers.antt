use Rattle.and_program.specs.Loaded.{program_of}
use Rattle.and_reader.specs.Causes.{refusal_of}
use Rattle.and_replies.proofs.TopLemmas.{refused_by, answered_by}
use Rattle.and_alone.proofs.texts.answer_to.Goals as goal

pub returns-in-Err : goal.returns-in-Err
returns-in-Err g c =
    refused_by c.args.question c.refused.result (refusal_of c.in-Err.refusal) c.args.text.now c.in-Err.ensures.refused
    c.refused.ensures.status c.refused.ensures.text

pub returns-in-Ok : goal.returns-in-Ok
returns-in-Ok g c =
    answered_by c.args.question (program_of c.in-Ok.loaded) c.reply_at_last.result c.args.text.now c.in-Ok.ensures.program c.reply_at_last.ensures
