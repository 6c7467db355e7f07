use Rattle.and_program.specs.Nodes.{shapes_of, names_of}
use Rattle.and_program.proofs.LoadedLemmas.{IsClause-entry, AllClauses-entries, own_variables}
use Rattle.and_program.proofs.loaded.Loaded.skeleton_is_of_the_program.Goals as goal

pub returns-clause-skeleton : goal.returns-clause-skeleton
returns-clause-skeleton c =
    let l = c.args.self.now in
    let ss = shapes_of l.nodes.items in
    (l.kept.falls, (IsClause-entry ss l.query l.kept.query_there, AllClauses-entries ss l.clauses.items l.kept.entries))

pub returns-clause-own_variables : goal.returns-clause-own_variables
returns-clause-own_variables c =
    let l = c.args.self.now in
    own_variables (shapes_of l.nodes.items) l.query l.clauses.items (names_of l.names.keys) l.kept
