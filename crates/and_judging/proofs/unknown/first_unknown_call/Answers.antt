use Rattle.std.proofs.Common.{get_or, ◌∙◌}
use Rattle.and_judging.specs.Unknown.{first_called}
use Rattle.and_judging.specs.declared.data.Called.{Called}
use Rattle.and_judging.proofs.UnknownLemmas.{found_here, found_later, found_none}
use Rattle.and_judging.proofs.unknown.first_unknown_call.Goals as goal

abbrev no_call : Called
no_call = record { predicate = record { name = record { 0 = 0 }; arity = 0 }; line = 0 }

pub returns-then-is_empty : goal.returns-then-is_empty
returns-then-is_empty c = λ cs finds.
    let k = get_or c.args.calls.now c.loop-call.call-index no_call in
    found_here cs c.args.calls.now c.loop-call.call-index no_call c.clauses_at.result.now c.is_empty.result (first_called cs c.args.calls.now)
    c.loop-call-test.true c.is_empty.ensures (c.clauses_at.ensures ∙ finds k.predicate) c.if-is_empty.true (c.loop-call.invariant cs finds)

pub loop-call-preserved : goal.loop-call-preserved
loop-call-preserved c = λ cs finds.
    let k = get_or c.args.calls.now c.loop-call.call-index no_call in
    found_later cs c.args.calls.now c.loop-call.call-index no_call c.clauses_at.result.now c.is_empty.result (first_called cs c.args.calls.now)
    c.loop-call-test.true c.is_empty.ensures (c.clauses_at.ensures ∙ finds k.predicate) c.if-is_empty.false (c.loop-call.invariant cs finds)

pub returns : goal.returns
returns c = λ cs finds.
    found_none cs c.args.calls.now c.loop-call.call-index (first_called cs c.args.calls.now) c.loop-call-test.false (c.loop-call.invariant cs finds)
