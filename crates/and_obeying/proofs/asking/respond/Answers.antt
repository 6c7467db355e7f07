use Rattle.std.proofs.Common.{Ok, sym, subst}
use Rattle.and_questions.specs.Replied.{IsAnswer}
use Rattle.and_obeying.proofs.AskLemmas.{responded}
use Rattle.and_obeying.proofs.asking.respond.Goals as goal

pub returns-in-Ok-clause-answered : goal.returns-in-Ok-clause-answered
returns-in-Ok-clause-answered g c =
    let said = c.requires.answers c.args.request c.args.bytes (Ok c.in-Ok.reply) c.requires.allowed c.in-Ok.ensures in
    let was = subst (IsAnswer c.args.request c.in-Ok.reply.status c.args.bytes.now) (sym c.bytes.ensures) said in
    (responded c.args.request _ _ c.args.bytes.now c.bytes.result.now c.in-Ok.reply.status c.finish-status.result was
    c.finish-status.ensures.written (λ e. (c.finish-status.ensures.fault e).1)).0

pub returns-in-Ok-clause-no_read_fault : goal.returns-in-Ok-clause-no_read_fault
returns-in-Ok-clause-no_read_fault g c =
    let said = c.requires.answers c.args.request c.args.bytes (Ok c.in-Ok.reply) c.requires.allowed c.in-Ok.ensures in
    let was = subst (IsAnswer c.args.request c.in-Ok.reply.status c.args.bytes.now) (sym c.bytes.ensures) said in
    (responded c.args.request _ _ c.args.bytes.now c.bytes.result.now c.in-Ok.reply.status c.finish-status.result was
    c.finish-status.ensures.written (λ e. (c.finish-status.ensures.fault e).1)).1
