use Rattle.std.proofs.Common.{◌≡◌, true, false, arith, rules}
use Rattle.std.specs.Prelude.{is_some}
use Rattle.and_batch_text.specs.Views.{spans_of}
use Rattle.and_batch_reader.proofs.Judged.{none_before, one_more, first_one, all_read, spans_long}
use Rattle.and_batch_reader.proofs.opening.first_refusal.Goals as goal

pub loop-number-init : goal.loop-number-init
loop-number-init c = record { read = none_before c.args.bytes.now (spans_of c.args.spans.now); kept = c.requires }

pub returns-then-is_some-clause-judged : goal.returns-then-is_some-clause-judged
returns-then-is_some-clause-judged c =
    let o = c.in_ok-verdict.verdict.refusal in
    let some : is_some o ≡ true = search rules in
    let ss = c.args.spans.now in
    let long = spans_long ss in
    first_one c.args.bytes.now (spans_of ss) c.loop-number.number o (omega (arith, long, c.loop-number-test.true)) c.loop-number.invariant.read
    (c.in_ok-verdict.ensures.judged c.loop-number.invariant.kept) some

pub returns-then-is_some-clause-beginning : goal.returns-then-is_some-clause-beginning
returns-then-is_some-clause-beginning c = c.in_ok-verdict.ensures.beginning c.loop-number.invariant.kept

pub loop-number-preserved : goal.loop-number-preserved
loop-number-preserved c =
    let o = c.in_ok-verdict.verdict.refusal in
    let none : is_some o ≡ false = search rules in
    let i = c.loop-number.invariant in
    record {
      read = one_more c.args.bytes.now (spans_of c.args.spans.now) c.loop-number.number o i.read (c.in_ok-verdict.ensures.judged i.kept) none;
      kept = c.in_ok-verdict.ensures.beginning i.kept;
    }

pub returns-clause-judged : goal.returns-clause-judged
returns-clause-judged c =
    let ss = c.args.spans.now in
    let long = spans_long ss in
    all_read c.args.bytes.now (spans_of ss) c.loop-number.number (omega (arith, long, c.loop-number-test.false)) c.loop-number.invariant.read
