use Rattle.std.proofs.Common.{sym, subst}
use Rattle.and_batch_text.specs.Views.{spans_of}
use Rattle.and_batch_reader.specs.Opened.{AreFew, IsSought}
use Rattle.and_replies.proofs.batches.batched.Goals as goal

pub batched_alone-requires-clause-few : goal.batched_alone-requires-clause-few
batched_alone-requires-clause-few g c =
    let bytes = c.args.bytes.now in
    subst (λ ss. AreFew bytes (spans_of ss)) (sym c.as_slice.ensures.value) (subst (IsSought bytes) c.in-Queries.is c.in_ok-refusal.ensures)
