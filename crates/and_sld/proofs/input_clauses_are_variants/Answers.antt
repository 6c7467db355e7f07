use Rattle.and_sld.proofs.Variants.{in_frame}
use Rattle.and_sld.proofs.input_clauses_are_variants.Goals as goal

pub returns : goal.returns
returns c = in_frame
