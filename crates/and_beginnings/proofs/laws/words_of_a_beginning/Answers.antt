use Rattle.and_beginnings.proofs.Words.{beginning_words}
use Rattle.and_beginnings.proofs.laws.words_of_a_beginning.Goals as goal

pub returns : goal.returns
returns c = beginning_words
