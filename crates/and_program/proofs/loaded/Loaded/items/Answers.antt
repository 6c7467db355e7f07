use Rattle.std.proofs.Common.{List, map, subst, sym}
use Rattle.and_program.specs.Skeletons.{AllThere}
use Rattle.and_program.specs.Items.{node_item}
use Rattle.and_program.specs.Nodes.{shapes_of, names_of}
use Rattle.and_program.specs.declared.item.ItemNode.{ItemNode}
use Rattle.and_program.proofs.LoadedLemmas.{entry_there}
use Rattle.and_program.proofs.loaded.Loaded.items.Goals as goal

pub returns-clause-there : goal.returns-clause-there
returns-clause-there c =
    let l = c.args.self.now in
    let ss = shapes_of l.nodes.items in
    let P : List ItemNode → Type 0 = λ xs. AllThere ss 0 (map node_item xs) in
    subst P (sym c.deref.ensures.value) (entry_there ss l.query l.clauses.items (names_of l.names.keys) c.args.no.0 c.entry.result.now l.kept c.entry.ensures).1
