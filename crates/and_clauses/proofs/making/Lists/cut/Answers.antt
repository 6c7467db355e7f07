use Rattle.and_clauses.proofs.CutLists.{names_cut, shapes_cut}
use Rattle.and_clauses.proofs.making.Lists.cut.Goals as goal

pub returns-clause-names : goal.returns-clause-names
returns-clause-names c = names_cut c.args.lengths.names c.args.self.now.names.keys c.truncate.new.self.keys c.truncate.ensures.keys

pub returns-clause-nodes : goal.returns-clause-nodes
returns-clause-nodes c = shapes_cut c.args.lengths.nodes c.args.self.now.nodes.items c.truncate-2.new.self.items c.truncate-2.ensures.items
