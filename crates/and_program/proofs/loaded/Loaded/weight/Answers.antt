use Rattle.std.proofs.Common.{◌∷◌, ◌∙◌, sym, ap}
use Rattle.and_model.specs.Programs.{clause_weight}
use Rattle.and_program.specs.Nodes.{shapes_of, entry_clause}
use Rattle.and_program.proofs.LoadedLemmas.{weight_is, get_or-map_default}
use Rattle.and_program.proofs.loaded.Loaded.weight.Goals as goal

pub returns : goal.returns
returns c =
    let l = c.args.self.now in
    let f = entry_clause (shapes_of l.nodes.items) in
    weight_is (shapes_of l.nodes.items) c.entry.result.now
    ∙ ap clause_weight (ap f c.entry.ensures ∙ sym (get_or-map_default f (l.query ∷ l.clauses.items) c.args.no.0 l.query))
