use Rattle.std.proofs.Common.{◌∙◌, ap, take}
use Rattle.and_clauses.proofs.Questions.{taken_ground, taken_kept, taken_found}
use Rattle.and_clauses.proofs.asked.Asked.into_clauses.Goals as goal

pub invariant_of-result : goal.invariant_of-result
invariant_of-result c =
    let a = c.args.self in
    let parts = c.into_parts-nodes.ensures in
    let cut = c.cut.ensures in
    let ns = cut.nodes ∙ ap (take a.lengths.nodes) parts.nodes in
    let es = cut.clauses ∙ ap (take a.lengths.clauses) parts.entries in
    record {
      kept = taken_kept a c.cut.new.self ns es (cut.names ∙ ap (take a.lengths.names) parts.names) cut.calls;
      found = taken_found a c.cut.new.self ns es c.into_parts-nodes.result.numbers parts.found;
    }

pub returns-clause-ground : goal.returns-clause-ground
returns-clause-ground c =
    let a = c.args.self in
    let parts = c.into_parts-nodes.ensures in
    let cut = c.cut.ensures in
    taken_ground a c.cut.new.self (cut.nodes ∙ ap (take a.lengths.nodes) parts.nodes) (cut.clauses ∙ ap (take a.lengths.clauses) parts.entries)
