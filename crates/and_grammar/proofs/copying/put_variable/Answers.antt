use Rattle.and_grammar.proofs.CopyLemmas.{becomes}
use Rattle.and_grammar.proofs.copying.put_variable.Goals as goal

pub returns : goal.returns
returns c = becomes c.args.out.now c.variable.new.self _ _ c.in_ok-variable.ensures.ok
