use Rattle.std.proofs.Common.{◌∙◌, sym, ap}
use Rattle.and_program.specs.Predicates.{predicate_in_shape}
use Rattle.and_program.specs.Nodes.{shape_of}
use Rattle.and_program.proofs.PredicateLemmas.{predicate_in-node_term, predicate_in-past}
use Rattle.and_program.proofs.predicates.predicate_at.Goals as goal

pub returns-in-Some : goal.returns-in-Some
returns-in-Some c =
    let found = c.in-Some.found.now in
    c.predicate_of.ensures ∙ ap (λ x. predicate_in_shape (shape_of x)) c.in-Some.ensures.lookup.1
    ∙ sym (predicate_in-node_term c.args.nodes.now c.args.node.0 found c.in-Some.ensures.lookup.3.0)

pub returns-in-None : goal.returns-in-None
returns-in-None c = sym (predicate_in-past c.args.nodes.now c.args.node.0 c.in-None.ensures.lookup.3)
