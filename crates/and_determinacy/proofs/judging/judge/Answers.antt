use Rattle.std.proofs.Common.{subst}
use Rattle.std.specs.Prelude.{IfOk}
use Rattle.and_clause_index.specs.Served.{NodeHas, AreServed}
use Rattle.and_determinacy.specs.Searches.{IsCount}
use Rattle.and_determinacy.proofs.Searching.{counted_if}
use Rattle.and_determinacy.proofs.judging.judge.Goals as goal

pub returns-clause-judged : goal.returns-clause-judged
returns-clause-judged g c =
    let P = g.N.Naming.program in
    let row = c.args.cells.now in
    let node = c.node_of-node.result.0 in
    let base = c.args.goal.base in
    let clauses = c.clauses_to_try-clauses.result.now in
    let same = c.look_at.ensures.unchanged in
    let served = subst (λ r. AreServed P r node base clauses) same c.clauses_to_try-clauses.ensures in
    counted_if P row c.args.goal node c.node_of-node.ensures clauses served c.judge_all.result
    (subst (λ r. IfOk c.judge_all.result (IsCount (NodeHas P r node base) clauses 0)) same c.judge_all.ensures.count)

pub clauses_to_try-clauses-requires-clause-known : goal.clauses_to_try-clauses-requires-clause-known
clauses_to_try-clauses-requires-clause-known g c =
    c.requires.table.calls c.args.goal.clause.0 c.args.goal.item c.node_of-node.result.0 c.node_of-node.ensures.there
