use Rattle.and_reader.proofs.WordLemmas.{name_word, minus_word, functor_word}
use Rattle.and_reader.proofs.words.symbol_word.Goals as goal

pub returns-then-ne-clause-word : goal.returns-then-ne-clause-word
returns-then-ne-clause-word c = name_word c.args.bytes.now _ c.args.symbol.now c.as_slice.result.now c.as_slice.ensures c.if-ne.ensures

pub returns-in-Some-clause-word : goal.returns-in-Some-clause-word
returns-in-Some-clause-word c =
    minus_word c.args.bytes.now _ c.in-Some.before c.args.symbol.now c.as_slice.result.now c.as_slice.ensures c.if-ne.ensures c.in-Some.ensures

pub returns-in-None-clause-word : goal.returns-in-None-clause-word
returns-in-None-clause-word c = functor_word c.args.bytes.now _ c.args.symbol.now c.as_slice.result.now c.as_slice.ensures c.if-ne.ensures c.in-None.ensures
