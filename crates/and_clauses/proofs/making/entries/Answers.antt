use Rattle.std.proofs.Common.{refl, ap, sym, ◌∙◌, ◌+◌, ◌-◌, length, get_or, map, take, drop, All, subst, arith}
use Rattle.std.specs.Prelude.{flat_map}
use Rattle.std.proofs.lemmas.List.{get_or_default}
use Rattle.and_model.specs.OwnVariables.{AreOwn, terms_of_item}
use Rattle.and_model.specs.declared.numbers.NodeNo.{NodeNo}
use Rattle.and_program.specs.Nodes.{shapes_of}
use Rattle.and_judging.specs.Sorts.{piece_in, outlines_in}
use Rattle.and_judging.specs.Outlined.{pieces_items, pieces_size, outlines_size, outline_clause}
use Rattle.and_clauses.specs.Lifts.{names_under, nodes_under, named_under, ArePiecesThere, AreAlternatives, HaveOwn, AreLifted, head_size, clause_under}
use Rattle.and_clauses.proofs.CopySteps.{tail_of}
use Rattle.and_clauses.proofs.LiftSteps.{room_less, room_left, grown_both}
use Rattle.and_clauses.proofs.Entries.{outlines_some, first_there, others_there, others_own_any}
use Rattle.and_clauses.proofs.LiftedEntries.{pieces_own, head_own, size_split, entries_made}
use Rattle.and_clauses.proofs.making.entries.Goals as goal

pub head_node-requires-clause-own : goal.head_node-requires-clause-own
head_node-requires-clause-own c =
    head_own c.args.lifting c.requires.lifting c.args.head c.args.line c.args.outlines.now c.requires.outlines.0 c.requires.outlines.1 c.requires.few

pub head_node-requires-clause-room : goal.head_node-requires-clause-room
head_node-requires-clause-room c =
    let ss = nodes_under c.args.lifting in
    let ds = named_under c.args.lifting in
    room_less (length (names_under c.args.lifting)) (shapes_of c.args.nodes.now.items) (head_size ss c.args.head)
    (head_size ss c.args.head + outlines_size ds (outlines_in ss c.args.outlines.now)) (omega arith) c.requires.room

pub lifted_items-requires-clause-there : goal.lifted_items-requires-clause-there
lifted_items-requires-clause-there c =
    let o = get_or c.args.outlines.now 0 c.index-outlines-0.result in
    let at = get_or_default c.args.outlines.now 0 c.index-outlines-0.result o
    (outlines_some c.args.lifting c.requires.lifting c.args.head c.args.line c.args.outlines.now c.requires.outlines.0 c.requires.outlines.1) in
    subst (ArePiecesThere (length c.args.lifting.parts.now) (length c.args.lifting.disjunctions.now)) (sym c.as_slice.ensures)
    (first_there c.args.lifting c.requires.lifting c.args.head c.args.line c.args.outlines.now c.requires.outlines.0 c.requires.outlines.1 o at)

pub lifted_items-requires-clause-own : goal.lifted_items-requires-clause-own
lifted_items-requires-clause-own c =
    let o = get_or c.args.outlines.now 0 c.index-outlines-0.result in
    let at = get_or_default c.args.outlines.now 0 c.index-outlines-0.result o
    (outlines_some c.args.lifting c.requires.lifting c.args.head c.args.line c.args.outlines.now c.requires.outlines.0 c.requires.outlines.1) in
    let ss = nodes_under c.args.lifting in
    let ds = named_under c.args.lifting in
    subst (λ ps. All (AreOwn 255) (flat_map terms_of_item (pieces_items ds (λ q n. n) (map (piece_in ss) ps)))) (sym c.as_slice.ensures)
    (pieces_own c.args.lifting c.requires.lifting c.args.head c.args.line c.args.outlines.now c.requires.outlines.0 c.requires.outlines.1 c.requires.few o at)

pub lifted_items-requires-clause-room : goal.lifted_items-requires-clause-room
lifted_items-requires-clause-room c =
    let o = get_or c.args.outlines.now 0 c.index-outlines-0.result in
    let at = get_or_default c.args.outlines.now 0 c.index-outlines-0.result o
    (outlines_some c.args.lifting c.requires.lifting c.args.head c.args.line c.args.outlines.now c.requires.outlines.0 c.requires.outlines.1) in
    let ss = nodes_under c.args.lifting in
    let ds = named_under c.args.lifting in
    let m = length (names_under c.args.lifting) in
    let old = shapes_of c.args.nodes.now.items in
    let a = head_size ss c.args.head in
    let b = pieces_size ds (map (piece_in ss) c.as_slice.result.now) in
    let rest = outlines_size ds (outlines_in ss (take (length c.args.outlines.now - 1) (drop 1 c.args.outlines.now))) in
    let total = a + outlines_size ds (outlines_in ss c.args.outlines.now) in
    let same = ap (λ ps. pieces_size ds (map (piece_in ss) ps)) c.as_slice.ensures in
    let tail = ap (λ xs. outlines_size ds (outlines_in ss xs)) (tail_of 1 c.args.outlines.now c.args.outlines.now refl) in
    let sum = size_split c.args.lifting c.requires.lifting c.args.head c.args.line c.args.outlines.now c.requires.outlines.0 c.requires.outlines.1
    c.requires.few o at in
    room_left m old (shapes_of c.head_node.new.nodes.items) a b total (omega (arith, sum, same)) c.requires.room c.in_ok-head.ensures.grown

pub alternatives-requires-clause-there : goal.alternatives-requires-clause-there
alternatives-requires-clause-there c =
    let o = get_or c.args.outlines.now 0 c.index-outlines-0.result in
    subst (AreAlternatives (length c.args.lifting.parts.now) (length c.args.lifting.disjunctions.now))
    (sym (tail_of 1 c.args.outlines.now c.args.outlines.now refl))
    (others_there c.args.lifting c.requires.lifting c.args.head c.args.line c.args.outlines.now c.requires.outlines.0 c.requires.outlines.1 o)

pub alternatives-requires-clause-own : goal.alternatives-requires-clause-own
alternatives-requires-clause-own c =
    λ j.
    let o = get_or c.args.outlines.now 0 c.index-outlines-0.result in
    let ss = nodes_under c.args.lifting in
    let ds = named_under c.args.lifting in
    subst (λ xs. HaveOwn (map (outline_clause ds j) (outlines_in ss xs))) (sym (tail_of 1 c.args.outlines.now c.args.outlines.now refl))
    (others_own_any c.args.lifting c.requires.lifting c.args.head c.args.line c.args.outlines.now c.requires.outlines.0 c.requires.outlines.1 o j)

pub alternatives-requires-clause-room : goal.alternatives-requires-clause-room
alternatives-requires-clause-room c =
    let o = get_or c.args.outlines.now 0 c.index-outlines-0.result in
    let at = get_or_default c.args.outlines.now 0 c.index-outlines-0.result o
    (outlines_some c.args.lifting c.requires.lifting c.args.head c.args.line c.args.outlines.now c.requires.outlines.0 c.requires.outlines.1) in
    let ss = nodes_under c.args.lifting in
    let ds = named_under c.args.lifting in
    let m = length (names_under c.args.lifting) in
    let old = shapes_of c.args.nodes.now.items in
    let a = head_size ss c.args.head in
    let b = pieces_size ds (map (piece_in ss) c.as_slice.result.now) in
    let rest = outlines_size ds (outlines_in ss (take (length c.args.outlines.now - 1) (drop 1 c.args.outlines.now))) in
    let total = a + outlines_size ds (outlines_in ss c.args.outlines.now) in
    let same = ap (λ ps. pieces_size ds (map (piece_in ss) ps)) c.as_slice.ensures in
    let tail = ap (λ xs. outlines_size ds (outlines_in ss xs)) (tail_of 1 c.args.outlines.now c.args.outlines.now refl) in
    let sum = size_split c.args.lifting c.requires.lifting c.args.head c.args.line c.args.outlines.now c.requires.outlines.0 c.requires.outlines.1
    c.requires.few o at in
    let mid = shapes_of c.lifted_items.new.nodes.items in
    let first = grown_both m old (shapes_of c.head_node.new.nodes.items) mid a b (a + b) (omega arith) c.in_ok-head.ensures.grown c.in_ok-items.ensures.grown in
    room_left m old mid (a + b) rest total (omega (arith, sum, same, tail)) c.requires.room first

pub returns-clause-grown : goal.returns-clause-grown
returns-clause-grown c =
    let o = get_or c.args.outlines.now 0 c.index-outlines-0.result in
    let at = get_or_default c.args.outlines.now 0 c.index-outlines-0.result o
    (outlines_some c.args.lifting c.requires.lifting c.args.head c.args.line c.args.outlines.now c.requires.outlines.0 c.requires.outlines.1) in
    let ss = nodes_under c.args.lifting in
    let ds = named_under c.args.lifting in
    let m = length (names_under c.args.lifting) in
    let old = shapes_of c.args.nodes.now.items in
    let a = head_size ss c.args.head in
    let b = pieces_size ds (map (piece_in ss) c.as_slice.result.now) in
    let rest = outlines_size ds (outlines_in ss (take (length c.args.outlines.now - 1) (drop 1 c.args.outlines.now))) in
    let total = a + outlines_size ds (outlines_in ss c.args.outlines.now) in
    let same = ap (λ ps. pieces_size ds (map (piece_in ss) ps)) c.as_slice.ensures in
    let tail = ap (λ xs. outlines_size ds (outlines_in ss xs)) (tail_of 1 c.args.outlines.now c.args.outlines.now refl) in
    let sum = size_split c.args.lifting c.requires.lifting c.args.head c.args.line c.args.outlines.now c.requires.outlines.0 c.requires.outlines.1
    c.requires.few o at in
    let mid = shapes_of c.lifted_items.new.nodes.items in
    let first = grown_both m old (shapes_of c.head_node.new.nodes.items) mid a b (a + b) (omega arith) c.in_ok-head.ensures.grown c.in_ok-items.ensures.grown in
    grown_both m old mid (shapes_of c.alternatives.new.nodes.items) (a + b) rest total (omega (arith, sum, same, tail)) first c.in_ok-alternatives.ensures.grown

pub returns-clause-lifted : goal.returns-clause-lifted
returns-clause-lifted c =
    λ m items are.
    let o = get_or c.args.outlines.now 0 c.index-outlines-0.result in
    let at = get_or_default c.args.outlines.now 0 c.index-outlines-0.result o
    (outlines_some c.args.lifting c.requires.lifting c.args.head c.args.line c.args.outlines.now items are) in
    let ss = nodes_under c.args.lifting in
    let ds = named_under c.args.lifting in
    let k = record (clause_under c.args.lifting c.args.head c.args.line items) { number = m } in
    let us = shapes_of c.head_node.new.nodes.items in
    let mid = shapes_of c.lifted_items.new.nodes.items in
    let vs = shapes_of c.alternatives.new.nodes.items in
    let others = subst (λ xs. AreLifted vs c.in_ok-alternatives.alternatives.items (map (outline_clause ds k) (outlines_in ss xs)))
    (tail_of 1 c.args.outlines.now c.args.outlines.now refl)
    (c.in_ok-alternatives.ensures.lifted k (sym (c.deref.ensures.value ∙ c.in_ok-written.ensures)) refl) in
    entries_made c.args.lifting c.requires.lifting c.args.head c.args.line c.args.outlines.now items are c.requires.few m us mid vs c.new.result
    c.in_ok-alternatives.alternatives.items c.in_ok-head.head.0 c.in_ok-items.items.items c.in_ok-written.written.items o at c.in_ok-head.ensures.node
    c.lifted_items.ensures.kept c.alternatives.ensures.kept
    (c.in_ok-items.ensures.items ∙ ap (λ ps. pieces_items ds (λ q n. n) (map (piece_in ss) ps)) c.as_slice.ensures)
    c.in_ok-items.ensures.there others c.in_ok-written.ensures (ap (λ (n : NodeNo). n.0) c.new.ensures.head) c.new.ensures.items c.new.ensures.variables
    c.new.ensures.line
