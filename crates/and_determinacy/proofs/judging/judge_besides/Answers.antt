use Rattle.std.proofs.Common.{length, Ok, ap, refl}
use Rattle.and_clause_index.specs.Served.{NodeHas}
use Rattle.and_determinacy.proofs.Searching.{none_joined, next_joined}
use Rattle.and_determinacy.proofs.Told.{both_keep}
use Rattle.and_determinacy.proofs.judging.judge_besides.Goals as goal

pub returns-in-None-clause-count : goal.returns-in-None-clause-count
returns-in-None-clause-count g c =
    let clauses = c.args.clauses.now in
    let one = c.args.one in (
      one,
      refl,
      c.requires.one,
      none_joined (NodeHas g.N.Naming.program c.args.cells.now c.args.node.0 c.args.base) clauses one.behind c.args.from c.requires.between (length clauses)
          (c.in_ok-next_of_left.ensures.none (ap (λ x. Ok x) c.in-None.is)),
    )

pub returns-in-Some-clause-count : goal.returns-in-Some-clause-count
returns-in-Some-clause-count g c =
    let other = c.in-Some.field-0 in (
      c.args.one,
      other,
      c.requires.one,
      next_joined (NodeHas g.N.Naming.program c.args.cells.now c.args.node.0 c.args.base) c.args.clauses.now c.args.one.behind c.args.from
          c.requires.between c.requires.behind other (c.in_ok-next_of_left.ensures.some other (ap (λ x. Ok x) c.in-Some.is)),
    )

pub returns-in-Some-clause-stay : goal.returns-in-Some-clause-stay
returns-in-Some-clause-stay g c = λ e.
    let other = c.in-Some.field-0 in
    let is = ap (λ x. Ok x) c.in-Some.is in
    both_keep g.N.Naming.program c.args.cells.now c.args.node.0 c.args.base c.args.clauses.now 0 c.args.trials.now.rests c.next_of_left.new.trials.rests
    c.args.one other c.requires.one
    (next_joined (NodeHas g.N.Naming.program c.args.cells.now c.args.node.0 c.args.base) c.args.clauses.now c.args.one.behind c.args.from
    c.requires.between c.requires.behind other (c.in_ok-next_of_left.ensures.some other is))
    c.requires.stays (c.in_ok-next_of_left.ensures.before other is) (c.in_ok-next_of_left.ensures.stays other is)
