use Rattle.std.proofs.Common.{◌∙◌, ap, subst, refl, inl, inr, arith, Err}
use Rattle.and_obeying.specs.Answered.{Answered}
use Rattle.and_questions.specs.Replied.{most_of}
use Rattle.and_obeying.proofs.AskLemmas.{told, took, took_some, to_the_end}
use Rattle.and_obeying.proofs.asking.ask.Goals as goal

pub returns-in-Ok-clause-answered : goal.returns-in-Ok-clause-answered
returns-in-Ok-clause-answered g c =
    took c.most.result (most_of c.args.request) c.most.ensures _ _ _ c.in-Ok.read c.respond.result _ c.in-Ok.ensures.took
    (subst (Answered c.args.request (g.K.Sink.given c.args.sink.now) (g.K.Sink.given c.respond.new.sink) c.respond.result)
    (c.bytes-bytes.ensures ∙ c.text_of.ensures) c.respond.ensures.answered)

pub returns-in-Ok-clause-told : goal.returns-in-Ok-clause-told
returns-in-Ok-clause-told g c =
    told c.args.request _ _ c.most.result c.most.ensures _ _ c.in-Ok.read c.respond.result c.in-Ok.ensures.read
    (subst (Answered c.args.request (g.K.Sink.given c.args.sink.now) (g.K.Sink.given c.respond.new.sink) c.respond.result)
    (c.bytes-bytes.ensures ∙ c.text_of.ensures) c.respond.ensures.answered)

pub returns-in-Ok-clause-read_whole : goal.returns-in-Ok-clause-read_whole
returns-in-Ok-clause-read_whole g c =
    to_the_end c.most.result c.args.request c.most.ensures _ _ _ _ _ _ _ c.in-Ok.read c.respond.result c.in-Ok.ensures.read c.in-Ok.ensures.took
    (subst (Answered c.args.request (g.K.Sink.given c.args.sink.now) (g.K.Sink.given c.respond.new.sink) c.respond.result)
    (c.bytes-bytes.ensures ∙ c.text_of.ensures) c.respond.ensures.answered)

pub returns-in-Err-Failed-clause-answered : goal.returns-in-Err-Failed-clause-answered
returns-in-Err-Failed-clause-answered g c =
    took_some _ _ _ _ _ _ _ (c.read_all.ensures.took_at_failed (c.in-Err-Failed.is ∙ ap Err c.in-Err-Failed.field-0-is))
    (omega (arith, c.most.ensures)) (inl refl) (λ text. refl)

pub returns-in-Err-Memory-clause-answered : goal.returns-in-Err-Memory-clause-answered
returns-in-Err-Memory-clause-answered g c =
    took_some _ _ _ _ _ _ _ (c.read_all.ensures.took_at_memory (c.in-Err-Memory.is ∙ ap Err c.in-Err-Memory.field-0-is))
    (omega (arith, c.most.ensures)) (inr refl) (λ text. refl)
