use Rattle.std.proofs.Common.{◌≡◌, length, subst, sym, arith}
use Rattle.std.specs.Prelude.{OnOk}
use Rattle.and_guards.specs.Goals.{IsNodeOf}
use Rattle.and_determinacy.specs.Candidates.{AreCandidates, IsJudged}
use Rattle.and_determinacy.specs.declared.judging.Judged.TheVariants.{Several}
use Rattle.and_clause_index.specs.Served.{NodeHas, AreServed}
use Rattle.and_determinacy.specs.declared.judging.Two.{Two}
use Rattle.and_determinacy.proofs.Searching.{two_alone, two_put}
use Rattle.and_determinacy.proofs.judging.candidates_of_several.Goals as goal

pub clauses_for-clauses-requires-clause-known : goal.clauses_for-clauses-requires-clause-known
clauses_for-clauses-requires-clause-known g c =
    c.requires.table.calls c.args.goal.clause.0 c.args.goal.item c.node_of-node.result.0 c.node_of-node.ensures.there

pub several_by_prints-requires-clause-node : goal.several_by_prints-requires-clause-node
several_by_prints-requires-clause-node g c =
    subst (λ r. IsNodeOf g.N.Naming.program r c.args.goal c.node_of-node.result.0) (sym c.clauses_for-clauses.ensures.unchanged) c.node_of-node.ensures

pub several_by_prints-requires-clause-served : goal.several_by_prints-requires-clause-served
several_by_prints-requires-clause-served g c =
    subst (λ r. AreServed g.N.Naming.program r c.node_of-node.result.0 c.args.goal.base c.clauses_for-clauses.result.now)
    (sym c.clauses_for-clauses.ensures.unchanged) c.clauses_for-clauses.ensures.served

pub several_by_prints-requires-clause-several : goal.several_by_prints-requires-clause-several
several_by_prints-requires-clause-several g c =
    subst (λ r. IsJudged g.N.Naming.program r c.args.goal Several) (sym c.clauses_for-clauses.ensures.unchanged) c.requires.several

pub returns-clause-candidates : goal.returns-clause-candidates
returns-clause-candidates g c =
    subst (λ row. OnOk c.several_by_prints.result (AreCandidates g.N.Naming.program row c.args.goal c.several_by_prints.new.out))
    c.clauses_for-clauses.ensures.unchanged c.several_by_prints.ensures.candidates

pub returns-then-clauses-eq2-clause-candidates : goal.returns-then-clauses-eq2-clause-candidates
returns-then-clauses-eq2-clause-candidates g c =
    let P = g.N.Naming.program in
    let row = c.args.cells.now in
    let node = c.node_of-node.result.0 in
    let base = c.args.goal.base in
    let clauses = c.clauses_for-clauses.result.now in
    let served = c.clauses_for-clauses.ensures.served in
    let long : length clauses ≡ 2 = omega arith in
    let two : Two = record { first = 0; second = 1 } in
    two_put P row c.args.goal node c.node_of-node.ensures clauses served two (two_alone (NodeHas P row node base) clauses long) c.requires.several
    c.put-then-clauses-eq2.result c.clear.new.list c.put.new.list c.put-then-clauses-eq2.new.list c.clear.ensures c.in_ok-put.ensures
    c.put-then-clauses-eq2.ensures
