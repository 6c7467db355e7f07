use Rattle.std.proofs.Common.{IfOk, sym, subst}
use Rattle.and_questions.specs.Forked.{WasForked}
use Rattle.and_questions.specs.Linted.{WasLinted}
use Rattle.and_questions.specs.Replied.{IsReply, WasChecked}
use Rattle.and_alone.proofs.texts.reply_to.Goals as goal

pub returns-in-Run : goal.returns-in-Run
returns-in-Run g c = λ program lifted.
    subst (λ q. IfOk c.found_in.result (λ reply. IsReply q c.args.bytes.now program reply.status reply.text)) (sym c.in-Run.is)
    (c.found_in.ensures program lifted)

pub returns-in-Check : goal.returns-in-Check
returns-in-Check g c = λ program lifted.
    let told = subst (λ P. IfOk c.told_of.result (λ reply. WasChecked P reply.status reply.text)) lifted.is c.told_of.ensures in
    subst (λ q. IfOk c.told_of.result (λ reply. IsReply q c.args.bytes.now program reply.status reply.text)) (sym c.in-Check.is) told

pub returns-in-First : goal.returns-in-First
returns-in-First g c = λ program lifted.
    subst (λ q. IfOk c.first_in.result (λ reply. IsReply q c.args.bytes.now program reply.status reply.text)) (sym c.in-First.is)
    (c.first_in.ensures program lifted)

pub returns-in-Explain : goal.returns-in-Explain
returns-in-Explain g c = λ program lifted.
    subst (λ q. IfOk c.explained_in.result (λ reply. IsReply q c.args.bytes.now program reply.status reply.text)) (sym c.in-Explain.is)
    (c.explained_in.ensures program lifted)

pub returns-in-Lint : goal.returns-in-Lint
returns-in-Lint g c = λ program lifted.
    let told = subst (λ P. IfOk c.linted.result (λ reply. WasLinted P reply.status reply.text)) lifted.is c.linted.ensures in
    subst (λ q. IfOk c.linted.result (λ reply. IsReply q c.args.bytes.now program reply.status reply.text)) (sym c.in-Lint.is) told

pub returns-in-Tree : goal.returns-in-Tree
returns-in-Tree g c = λ program lifted.
    let told = subst (λ P. IfOk c.forked.result (λ reply. WasForked c.in-Tree.limit P reply.status reply.text)) lifted.is c.forked.ensures in
    subst (λ q. IfOk c.forked.result (λ reply. IsReply q c.args.bytes.now program reply.status reply.text)) (sym c.in-Tree.is) told
