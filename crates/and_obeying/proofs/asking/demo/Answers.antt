use Rattle.std.proofs.Common.{ap, ◌∙◌, subst}
use Rattle.and_gen.proofs.Reading.{generated_is_read}
use Rattle.and_questions.specs.declared.question.Question.TheVariants.{Run}
use Rattle.and_questions.specs.declared.question.Request.TheVariants.{Text}
use Rattle.and_reports.specs.declared.showing.Show.TheVariants.{Summary}
use Rattle.and_obeying.specs.Answered.{Answered}
use Rattle.and_obeying.proofs.AskLemmas.{allowed, never_refused}
use Rattle.and_obeying.proofs.asking.demo.Goals as goal

pub respond-requires-clause-allowed : goal.respond-requires-clause-allowed
respond-requires-clause-allowed g c =
    allowed (Text c.summary.result) Summary c.args.settings.limit (ap Text c.summary.ensures) c.requires.limited

pub returns-in-Ok-clause-answered : goal.returns-in-Ok-clause-answered
returns-in-Ok-clause-answered g c =
    let held = g.K.Sink.given in
    let asked = subst (λ q. Answered (Text q) (held c.args.sink.now) (held c.respond.new.sink) c.respond.result c.bytes.result.now)
    c.summary.ensures c.respond.ensures.answered in
    subst (Answered (Text (Run Summary c.args.settings.limit)) (held c.args.sink.now) (held c.respond.new.sink) c.respond.result)
    (c.bytes.ensures ∙ c.in-Ok.ensures.text) asked

pub returns-in-Ok-clause-not_refused : goal.returns-in-Ok-clause-not_refused
returns-in-Ok-clause-not_refused g c =
    let read = generated_is_read c.args.number c.requires.few in
    let held = g.K.Sink.given in
    never_refused Summary c.args.settings.limit (held c.args.sink.now) (held c.respond.new.sink) read.0 _ c.respond.result read.1
    (returns-in-Ok-clause-answered g c)
