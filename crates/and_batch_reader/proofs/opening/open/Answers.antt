use Rattle.std.proofs.Common.{arith, subst}
use Rattle.and_batch_text.specs.Views.{spans_of}
use Rattle.and_batch_reader.specs.Opened.{IsJudgedWhole}
use Rattle.and_batch_reader.proofs.Judged.{as_batch, as_refused, spans_long}
use Rattle.and_batch_reader.proofs.opening.open.Goals as goal

pub returns-in-Some-clause-opened : goal.returns-in-Some-clause-opened
returns-in-Some-clause-opened c = λ few.
    let bytes = c.args.bytes.now in
    let ss = c.args.spans.now in
    let most = few.few in
    let long = spans_long ss in
    as_refused bytes ss c.in-Some.refusal few.size few.queries (omega (arith, most, long))
    (subst (IsJudgedWhole bytes (spans_of ss)) c.in-Some.is c.in_ok-refusal.ensures.judged)

pub returns-in-None-clause-opened : goal.returns-in-None-clause-opened
returns-in-None-clause-opened c = λ few.
    let bytes = c.args.bytes.now in
    let ss = c.args.spans.now in
    let most = few.few in
    let long = spans_long ss in
    as_batch bytes ss few.size few.queries (omega (arith, most, long))
    (subst (IsJudgedWhole bytes (spans_of ss)) c.in-None.is c.in_ok-refusal.ensures.judged)
