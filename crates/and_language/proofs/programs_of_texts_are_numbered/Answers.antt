use Rattle.and_language.proofs.NumberedTexts.{numbered_text}
use Rattle.and_language.proofs.programs_of_texts_are_numbered.Goals as goal

pub returns : goal.returns
returns c = λ bytes P r. numbered_text bytes P r
