use Rattle.std.proofs.Common.{ℕ, ◌∷◌, get_or, ◌∙◌, ap}
use Rattle.and_program.specs.Skeletons.{node_term}
use Rattle.and_program.specs.declared.entry.ClauseEntry.{ClauseEntry}
use Rattle.and_program.specs.Nodes.{shapes_of, names_of}
use Rattle.and_program.proofs.LoadedLemmas.{entry_there, query_head}
use Rattle.and_program.proofs.loaded.Loaded.head.Goals as goal

pub returns-clause-there : goal.returns-clause-there
returns-clause-there c =
    let l = c.args.self.now in
    (entry_there (shapes_of l.nodes.items) l.query l.clauses.items (names_of l.names.keys) c.args.no.0 c.entry.result.now l.kept c.entry.ensures).0

pub returns-clause-query : goal.returns-clause-query
returns-clause-query c = λ first.
    let l = c.args.self.now in
    let ss = shapes_of l.nodes.items in
    let at : ℕ → ClauseEntry = λ n. get_or (l.query ∷ l.clauses.items) n l.query in
    ap (λ (e : ClauseEntry). node_term ss e.head.0) (c.entry.ensures ∙ ap at first) ∙ ap (λ (n : ℕ). node_term ss n) l.kept.query_true
    ∙ query_head ss l.kept.begins
