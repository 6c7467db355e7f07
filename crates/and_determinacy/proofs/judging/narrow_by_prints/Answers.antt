use Rattle.std.proofs.Common.{Ok, length, ap, sym, subst}
use Rattle.std.specs.Prelude.{IfOk, IfSome}
use Rattle.and_guards.specs.Goals.{IsNodeOf}
use Rattle.and_clause_index.specs.Served.{NodeHas, AreServed}
use Rattle.and_determinacy.specs.Candidates.{IsNarrowed}
use Rattle.and_determinacy.specs.Searches.{NoneFrom}
use Rattle.and_determinacy.specs.Watching.{TwoStayWhile}
use Rattle.and_determinacy.proofs.Searching.{none_seen, served_printed, none_left}
use Rattle.and_determinacy.proofs.judging.narrow_by_prints.Goals as goal

pub returns-then-are_two-clause-narrowed : goal.returns-then-are_two-clause-narrowed
returns-then-are_two-clause-narrowed g c = c.in_ok-are_two.ensures.narrowed (ap (λ b. Ok b) c.if-are_two.true)

pub returns-then-are_two-clause-told : goal.returns-then-are_two-clause-told
returns-then-are_two-clause-told g c = λ is. c.in_ok-are_two.ensures.told (ap (λ b. Ok b) c.if-are_two.true)

pub sifted-left-requires-clause-node : goal.sifted-left-requires-clause-node
sifted-left-requires-clause-node g c =
    subst (λ r. IsNodeOf g.N.Naming.program r c.args.goal c.args.node.0) (sym c.look_at_asked.ensures.unchanged) c.requires.node

pub returns-in-None-clause-narrowed : goal.returns-in-None-clause-narrowed
returns-in-None-clause-narrowed g c =
    let P = g.N.Naming.program in
    let row = c.args.cells.now in
    let node = c.args.node.0 in
    let base = c.args.goal.base in
    let left = c.sifted-left.result.now in
    let served = subst (λ r. AreServed P r node base left) c.look_at_asked.ensures.unchanged c.sifted-left.ensures in
    let seen = none_seen P c.args.table.now c.requires.table row node base c.look_at_asked.new.self.look c.look_at_asked.ensures.look left in
    none_left P row c.args.goal node c.requires.node left served (seen 0 (length left) (c.next_left.ensures.none c.in-None.is))

pub narrow_from-requires-clause-before : goal.narrow_from-requires-clause-before
narrow_from-requires-clause-before g c =
    let P = g.N.Naming.program in
    let row = c.args.cells.now in
    let node = c.args.node.0 in
    let base = c.args.goal.base in
    let left = c.sifted-left.result.now in
    let first = c.in-Some.first in
    subst (λ r. NoneFrom (NodeHas P r node base) left 0 first) (sym c.look_at_asked.ensures.unchanged)
    (none_seen P c.args.table.now c.requires.table row node base c.look_at_asked.new.self.look c.look_at_asked.ensures.look left 0 first
    (c.next_left.ensures.first first c.in-Some.is))

pub narrow_from-requires-clause-there : goal.narrow_from-requires-clause-there
narrow_from-requires-clause-there g c = c.next_left.ensures.there c.in-Some.first c.in-Some.is

pub returns-in-Some-clause-narrowed : goal.returns-in-Some-clause-narrowed
returns-in-Some-clause-narrowed g c =
    subst (λ r. IfOk c.narrow_from.result (IsNarrowed g.N.Naming.program r c.args.goal)) c.look_at_asked.ensures.unchanged
    c.narrow_from.ensures.narrowed

pub returns-in-Some-clause-told : goal.returns-in-Some-clause-told
returns-in-Some-clause-told g c = λ is.
    subst (λ r. IfSome c.narrow_from.new.trials.rests (TwoStayWhile g.N.Naming.program r c.args.goal)) c.look_at_asked.ensures.unchanged
    (c.narrow_from.ensures.told is)

pub next_left-requires : goal.next_left-requires
next_left-requires g c =
    let P = g.N.Naming.program in
    let node = c.args.node.0 in
    let base = c.args.goal.base in
    let left = c.sifted-left.result.now in
    served_printed P c.args.table.now c.requires.table c.args.cells.now node base left
    (subst (λ r. AreServed P r node base left) c.look_at_asked.ensures.unchanged c.sifted-left.ensures)
