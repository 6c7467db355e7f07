use Rattle.std.proofs.Common.{subst}
use Rattle.std.proofs.lemmas.Option.{same_Some}
use Rattle.and_clause_index.specs.Served.{AreServed}
use Rattle.and_determinacy.proofs.judging.clauses_for.Goals as goal

pub returns-clause-served : goal.returns-clause-served
returns-clause-served g c =
    let same = same_Some c.clauses_by_first.new.cells c.args.cells.now c.clauses_by_first.ensures.reads.told in
    subst (λ row. AreServed g.N.Naming.program row c.args.node.0 c.args.base c.clauses_by_first.result.now) same
    (c.clauses_by_first.ensures.served c.clauses_by_first.new.cells (λ place r knows. knows))
