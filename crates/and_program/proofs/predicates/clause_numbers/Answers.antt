use Rattle.std.proofs.Common.{map}
use Rattle.and_program.specs.Nodes.{shape_of}
use Rattle.and_program.proofs.PredicateLemmas.{numbers_from-step}
use Rattle.and_program.proofs.predicates.clause_numbers.Goals as goal

pub loop-place-preserved : goal.loop-place-preserved
loop-place-preserved c = λ p.
    numbers_from-step p (map shape_of c.args.nodes.now) c.args.clauses.now c.loop-place.place c.index-clauses-place.result c.predicate_at.result _ _ _
    c.loop-place-test.true c.index-clauses-place.is c.predicate_at.ensures (c.in_ok-note_clause.ensures p) (c.loop-place.invariant p)
