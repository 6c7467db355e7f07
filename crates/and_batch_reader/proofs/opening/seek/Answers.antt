use Rattle.std.proofs.Common.{arith}
use Rattle.and_batch_reader.proofs.Judged.{spans_long}
use Rattle.and_batch_reader.proofs.opening.seek.Goals as goal

pub returns : goal.returns
returns c =
    let items = c.in_ok-spans.spans.items in
    let long = spans_long items in
    record {
      size = omega (arith, c.if-bytes-gt-MAX_BYTES.false);
      queries = c.in_ok-spans.ensures;
      few = omega (arith, long, c.if-len-gt-MAX_QUERIES.false, c.len.ensures);
    }
