use Rattle.and_batch_reader.proofs.Judged.{as_too_large}
use Rattle.and_batch_reader.proofs.opening.too_large.Goals as goal

pub returns : goal.returns
returns c = as_too_large c.args.bytes.now c.line_at.result c.requires c.line_at.ensures
