use Rattle.and_automaton.proofs.Begun.{goes_on_begun}
use Rattle.and_automaton.proofs.Texts.{goes_on, went_on, begun_goes_on, word_goes_on}
use Rattle.and_automaton.proofs.can_go_on.Goals as goal

pub returns-clause-words : goal.returns-clause-words
returns-clause-words c = λ limited ws. (went_on limited ws, λ h. goes_on limited ws h.0 h.1)

pub returns-clause-begun : goal.returns-clause-begun
returns-clause-begun c = begun_goes_on

pub returns-clause-one_more : goal.returns-clause-one_more
returns-clause-one_more c = word_goes_on

pub returns-clause-unended : goal.returns-clause-unended
returns-clause-unended c = goes_on_begun
