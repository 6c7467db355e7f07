use Rattle.std.proofs.Common.{[], ◌∷◌, length, ◌∙◌, sym, ap}
use Rattle.and_model.specs.Candidates.{guard}
use Rattle.and_program.specs.Nodes.{shapes_of, entry_clause}
use Rattle.and_program.proofs.LoadedLemmas.{guard_is, get_or-map_default}
use Rattle.and_program.proofs.loaded.Loaded.guard.Goals as goal

pub returns : goal.returns
returns c =
    let l = c.args.self.now in
    let f = entry_clause (shapes_of l.nodes.items) in
    guard_is (shapes_of l.nodes.items) c.entry.result.now
    ∙ ap (λ k. length (guard [] k.body)) (ap f c.entry.ensures ∙ sym (get_or-map_default f (l.query ∷ l.clauses.items) c.args.no.0 l.query))
