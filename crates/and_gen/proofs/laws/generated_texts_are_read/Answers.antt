use Rattle.and_gen.proofs.Reading.{generated_is_read}
use Rattle.and_gen.proofs.laws.generated_texts_are_read.Goals as goal

pub returns : goal.returns
returns c = generated_is_read
