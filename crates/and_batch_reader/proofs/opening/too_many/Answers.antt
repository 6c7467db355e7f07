use Rattle.and_batch_reader.proofs.Judged.{as_too_many}
use Rattle.and_batch_reader.proofs.opening.too_many.Goals as goal

pub returns : goal.returns
returns c = as_too_many c.args.bytes.now c.args.spans.now _ c.line_at.result c.requires.size c.requires.queries c.requires.many c.line_at.ensures
