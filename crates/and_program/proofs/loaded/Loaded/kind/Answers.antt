use Rattle.std.proofs.Common.{◌∙◌, ap, length}
use Rattle.and_program.specs.Nodes.{names_of}
use Rattle.and_program.specs.Shown.{count_of}
use Rattle.and_program.proofs.LoadedLemmas.{IsWithin-read, shown_node, count_shown}
use Rattle.and_program.proofs.loaded.Loaded.kind.Goals as goal

pub show-requires : goal.show-requires
show-requires c =
    let l = c.args.self.now in
    let m = length (names_of l.names.keys) in
    (m, IsWithin-read m l.nodes.items c.args.node.0 c.index.result.now l.kept.within c.requires c.index.ensures)

pub returns-clause-term : goal.returns-clause-term
returns-clause-term c = c.show.ensures ∙ shown_node c.args.self.now.nodes.items c.args.node.0 c.index.result.now c.requires c.index.ensures

pub returns-clause-count : goal.returns-clause-count
returns-clause-count c = ap count_of c.show.ensures ∙ count_shown c.args.self.now.nodes.items c.args.node.0 c.index.result.now c.requires c.index.ensures
