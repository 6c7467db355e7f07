use Rattle.std.proofs.Common.{refl, sym, ◌+◌, length, subst}
use Rattle.and_program.specs.Nodes.{shapes_of}
use Rattle.and_model.specs.OwnVariables.{HasOwnVariables}
use Rattle.and_judging.specs.Sorts.{outline_in, outlines_in}
use Rattle.and_judging.specs.Outlined.{outlines_size, outline_clause}
use Rattle.and_clauses.specs.Lifts.{names_under, nodes_under, named_under, IsScope, ArePiecesThere}
use Rattle.and_judging.specs.declared.sorting.Outline.{Outline}
use Rattle.and_clauses.proofs.LiftClauses.{scope_there, own_at, none_lifted, outline_room, one_lifted, all_lifted}
use Rattle.and_clauses.proofs.lifting.alternatives.Goals as goal

pub loop-outline-init : goal.loop-outline-init
loop-outline-init c =
    let ss = nodes_under c.args.lifting in
    let ds = named_under c.args.lifting in
    let old = shapes_of c.args.nodes.now.items in record {
      lifted = none_lifted ss ds (length (names_under c.args.lifting)) c.args.written.now c.args.line old
          (length old + outlines_size ds (outlines_in ss c.args.outlines.now))
          c.args.outlines.now c.new-entries.result.items c.new-entries.ensures.items c.requires.room refl;
    }

pub alternative-requires-clause-scope : goal.alternative-requires-clause-scope
alternative-requires-clause-scope c =
    let m = length c.args.lifting.disjunctions.now in
    let here = scope_there (length c.args.lifting.parts.now) m c.args.outlines.now c.loop-outline.outline-index c.outline-item.result c.loop-outline-test.true
    c.requires.there in
    subst (λ (o : Outline). IsScope m o.scope) (sym c.outline-item.is) here.0

pub alternative-requires-clause-pieces : goal.alternative-requires-clause-pieces
alternative-requires-clause-pieces c =
    let n = length c.args.lifting.parts.now in
    let m = length c.args.lifting.disjunctions.now in
    let here = scope_there n m c.args.outlines.now c.loop-outline.outline-index c.outline-item.result c.loop-outline-test.true c.requires.there in
    subst (λ (o : Outline). ArePiecesThere n m o.pieces.items) (sym c.outline-item.is) here.1

pub alternative-requires-clause-own : goal.alternative-requires-clause-own
alternative-requires-clause-own c = λ k.
    let ss = nodes_under c.args.lifting in
    let ds = named_under c.args.lifting in
    subst (λ (o : Outline). HasOwnVariables (outline_clause ds k (outline_in ss o))) (sym c.outline-item.is)
    (own_at ss ds k c.args.outlines.now c.loop-outline.outline-index c.outline-item.result c.loop-outline-test.true (c.requires.own k))

pub alternative-requires-clause-room : goal.alternative-requires-clause-room
alternative-requires-clause-room c =
    let ss = nodes_under c.args.lifting in
    let ds = named_under c.args.lifting in
    let old = shapes_of c.args.nodes.now.items in
    outline_room ss ds (length (names_under c.args.lifting)) c.args.written.now c.args.line old (shapes_of c.loop-outline.nodes.items)
    (length old + outlines_size ds (outlines_in ss c.args.outlines.now)) c.args.outlines.now c.loop-outline.outline-index c.outline-item.result
    c.loop-outline.entries.items c.loop-outline-test.true c.outline-item.is c.requires.room.room c.loop-outline.invariant.lifted

pub loop-outline-preserved : goal.loop-outline-preserved
loop-outline-preserved c =
    let ss = nodes_under c.args.lifting in
    let ds = named_under c.args.lifting in
    let old = shapes_of c.args.nodes.now.items in record {
      lifted = one_lifted ss ds (length (names_under c.args.lifting)) c.args.written.now c.args.line old (shapes_of c.loop-outline.nodes.items)
          (shapes_of c.alternative.new.nodes.items)
          (length old + outlines_size ds (outlines_in ss c.args.outlines.now)) c.args.outlines.now c.loop-outline.outline-index c.outline-item.result
          c.loop-outline.entries.items c.push.new.self.items c.in_ok-entry.entry c.loop-outline-test.true c.outline-item.is c.loop-outline.invariant.lifted
          c.in_ok-entry.ensures.grown c.in_ok-entry.ensures.lifted c.in_ok-push.ensures.items;
    }

pub returns-clause-lifted : goal.returns-clause-lifted
returns-clause-lifted c = λ k written line.
    let ss = nodes_under c.args.lifting in
    let ds = named_under c.args.lifting in
    let old = shapes_of c.args.nodes.now.items in
    all_lifted ss ds (length (names_under c.args.lifting)) c.args.written.now c.args.line old (shapes_of c.loop-outline.nodes.items)
    (length old + outlines_size ds (outlines_in ss c.args.outlines.now)) c.args.outlines.now c.loop-outline.outline-index c.loop-outline.entries.items
    c.loop-outline-test.false
    c.loop-outline.invariant.lifted k written line
