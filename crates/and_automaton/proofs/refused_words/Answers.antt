use Rattle.and_automaton.proofs.Begun.{refused_word, word_over_limit}
use Rattle.and_automaton.proofs.refused_words.Goals as goal

pub returns-clause-no_grammar : goal.returns-clause-no_grammar
returns-clause-no_grammar c = refused_word

pub returns-clause-over_limit : goal.returns-clause-over_limit
returns-clause-over_limit c = word_over_limit
