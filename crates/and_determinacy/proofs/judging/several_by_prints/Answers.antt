use Rattle.std.proofs.Common.{sym, subst}
use Rattle.std.specs.Prelude.{OnOk}
use Rattle.and_guards.specs.Goals.{IsNodeOf}
use Rattle.and_clause_index.specs.Served.{AreServed}
use Rattle.and_determinacy.specs.Candidates.{AreCandidates}
use Rattle.and_determinacy.specs.declared.judging.Two.{Two}
use Rattle.and_determinacy.proofs.Searching.{served_printed, two_seen, two_put}
use Rattle.and_determinacy.proofs.judging.several_by_prints.Goals as goal

pub sifted-left-requires-clause-node : goal.sifted-left-requires-clause-node
sifted-left-requires-clause-node g c =
    subst (λ r. IsNodeOf g.N.Naming.program r c.args.goal c.args.node.0) (sym c.look_at_asked.ensures.unchanged) c.requires.node

pub two_left-requires : goal.two_left-requires
two_left-requires g c =
    let P = g.N.Naming.program in
    let node = c.args.node.0 in
    let base = c.args.goal.base in
    let left = c.sifted-left.result.now in
    served_printed P c.args.table.now c.requires.table c.args.cells.now node base left
    (subst (λ r. AreServed P r node base left) c.look_at_asked.ensures.unchanged c.sifted-left.ensures)

pub returns-in_ok-put-in-Some-clause-candidates : goal.returns-in_ok-put-in-Some-clause-candidates
returns-in_ok-put-in-Some-clause-candidates g c =
    let P = g.N.Naming.program in
    let row = c.args.cells.now in
    let node = c.args.node.0 in
    let base = c.args.goal.base in
    let left = c.sifted-left.result.now in
    let served = subst (λ r. AreServed P r node base left) c.look_at_asked.ensures.unchanged c.sifted-left.ensures in
    let two : Two = c.in-Some.two in
    let are = two_seen P c.args.table.now c.requires.table row node base c.look_at_asked.new.self.look c.look_at_asked.ensures.look left two
    c.in-Some.ensures in
    two_put P row c.args.goal node c.requires.node left served two are c.requires.several c.put-in-Some.result c.args.out.now
    c.put.new.list c.put-in-Some.new.list c.requires.empty c.in_ok-put-in-Some.ensures c.put-in-Some.ensures

pub returns-in-None-clause-candidates : goal.returns-in-None-clause-candidates
returns-in-None-clause-candidates g c =
    subst (λ row. OnOk c.pick.result (AreCandidates g.N.Naming.program row c.args.goal c.pick.new.out)) c.look_at_asked.ensures.unchanged
    c.pick.ensures.candidates
