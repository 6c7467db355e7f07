use Rattle.std.proofs.Common.{sym, subst}
use Rattle.and_batch_text.specs.Views.{spans_of}
use Rattle.and_batch_reader.specs.Opened.{AreFew, IsSought}
use Rattle.and_alone.proofs.jobs.batched_by.Goals as goal

pub side_by_side-requires-clause-few : goal.side_by_side-requires-clause-few
side_by_side-requires-clause-few g c κs within =
    let bytes = c.args.bytes.now in
    subst (λ ss. AreFew bytes (spans_of ss)) (sym c.as_slice.ensures.value) (subst (IsSought bytes) c.in-Queries.is c.in_ok-refusal.ensures)
