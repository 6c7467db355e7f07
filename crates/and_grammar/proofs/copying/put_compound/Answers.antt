use Rattle.and_grammar.proofs.CopyLemmas.{compound_becomes}
use Rattle.and_grammar.proofs.copying.put_compound.Goals as goal

pub returns : goal.returns
returns c = λ ws us split few. compound_becomes c.args.out.now c.compound.new.self c.args.name.now c.args.count _ ws us c.in_ok-compound.ensures.ok split few
