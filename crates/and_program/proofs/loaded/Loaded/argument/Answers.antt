use Rattle.and_program.specs.Nodes.{shapes_of}
use Rattle.and_program.proofs.LoadedLemmas.{node_argument, argument_read}
use Rattle.and_program.proofs.loaded.Loaded.argument.Goals as goal

pub returns-clause-term : goal.returns-clause-term
returns-clause-term c =
    let l = c.args.self.now in
    let read = argument_read l.nodes.items c.args.node.0 c.args.place c.index.result.now c.in-Compound.name c.in-Compound.arguments
    c.index-in-Compound.result.now c.requires.there c.index.ensures c.in-Compound.is c.requires.place c.index-in-Compound.ensures in
    (node_argument (shapes_of l.nodes.items) c.args.node.0 c.args.place c.index-in-Compound.result.now.0 l.kept.falls c.requires.there c.requires.place read).0

pub returns-clause-below : goal.returns-clause-below
returns-clause-below c =
    let l = c.args.self.now in
    let read = argument_read l.nodes.items c.args.node.0 c.args.place c.index.result.now c.in-Compound.name c.in-Compound.arguments
    c.index-in-Compound.result.now c.requires.there c.index.ensures c.in-Compound.is c.requires.place c.index-in-Compound.ensures in
    (node_argument (shapes_of l.nodes.items) c.args.node.0 c.args.place c.index-in-Compound.result.now.0 l.kept.falls c.requires.there c.requires.place read).1
