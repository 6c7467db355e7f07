use Rattle.and_automaton.specs.Machine.{at500}
use Rattle.and_reader.proofs.emitting.finish_relation.Goals as goal

pub finish_infix-requires : goal.finish_infix-requires
finish_infix-requires c =
    let q = c.requires in
    let p = q.0 in
    (p.relation, at500 p q.1, q.2, q.3.relation, c.in_ok-finish_sum.ensures.ok p q.1 q.2 q.3 q.4)

pub returns-clause-ok : goal.returns-clause-ok
returns-clause-ok c p w rest is has = c.finish_infix.ensures.ok p.relation (at500 p w) (rest) is.relation (c.in_ok-finish_sum.ensures.ok p w rest is has)
