use Rattle.std.proofs.Common.{length, arith}
use Rattle.and_program.specs.Nodes.{names_of}
use Rattle.and_program.proofs.LoadedLemmas.{IsWithin-read, variable_fits}
use Rattle.and_program.proofs.loaded.Loaded.resolve.Goals as goal

pub overflow_add-result-in-Variable : goal.overflow_add-result-in-Variable
overflow_add-result-in-Variable c =
    let l = c.args.self.now in
    let m = length (names_of l.names.keys) in
    let within = IsWithin-read m l.nodes.items c.args.node.0 c.index.result.now l.kept.within c.requires.there c.index.ensures in
    let few = variable_fits m c.index.result.now c.in-Variable.number within c.in-Variable.is in
    omega (arith, few)
