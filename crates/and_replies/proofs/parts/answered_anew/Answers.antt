use Rattle.std.proofs.Common.{false}
use Rattle.and_program.specs.Loaded.{program_of}
use Rattle.and_reader.specs.Causes.{refusal_of}
use Rattle.and_questions.specs.declared.question.Question.TheVariants.{Run}
use Rattle.and_reports.specs.declared.showing.Show.TheVariants.{Whole}
use Rattle.and_replies.proofs.TopLemmas.{refused_by, answered_by}
use Rattle.and_replies.proofs.parts.answered_anew.Goals as goal

pub returns-in-Err : goal.returns-in-Err
returns-in-Err g c =
    refused_by (Run (Whole false) c.args.limit) c.refused.result (refusal_of c.in-Err.refusal) c.args.text.now c.in-Err.ensures.refused
    c.refused.ensures.status c.refused.ensures.text

pub returns-in_ok-table-in-Ok : goal.returns-in_ok-table-in-Ok
returns-in_ok-table-in-Ok g c =
    answered_by (Run (Whole false) c.args.limit) (program_of c.in-Ok.loaded) c.searched.result c.args.text.now c.in-Ok.ensures.program c.searched.ensures
