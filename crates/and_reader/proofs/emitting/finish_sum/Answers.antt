use Rattle.and_automaton.specs.Machine.{at400}
use Rattle.and_reader.specs.Standing.{with_left}
use Rattle.and_reader.proofs.emitting.finish_sum.Goals as goal

pub finish_infix-requires : goal.finish_infix-requires
finish_infix-requires c =
    let q = c.requires in
    let p = q.0 in
    (p.sum, at400 p q.1, with_left p.relation q.2, q.3.sum, c.in_ok-finish_product.ensures.ok p q.1 q.2 q.3 q.4)

pub returns-clause-ok : goal.returns-clause-ok
returns-clause-ok c p w rest is has =
    c.finish_infix.ensures.ok p.sum (at400 p w) (with_left p.relation rest) is.sum (c.in_ok-finish_product.ensures.ok p w rest is has)
