use Rattle.std.proofs.Common.{refl, ap, ◌+◌, ◌≤◌, length, map, get_or, arith}
use Rattle.std.proofs.lemmas.List.{get_or_default}
use Rattle.and_program.specs.Nodes.{shapes_of}
use Rattle.and_program.specs.declared.item.ItemNode.TheVariants.{Call}
use Rattle.and_judging.specs.Sorts.{piece_in}
use Rattle.and_judging.specs.Outlined.{pieces_size}
use Rattle.and_clauses.specs.Copies.{numbering_at}
use Rattle.and_clauses.specs.Lifts.{names_under, nodes_under, named_under}
use Rattle.and_judging.specs.declared.sorting.Piece.{Piece}
use Rattle.and_judging.specs.declared.sorting.Piece.TheVariants.{Item}
use Rattle.and_clauses.proofs.LiftSteps.{piece_there_at, piece_own_at, pieces_few, none_so_far, piece_room, one_more, so_far_few}
use Rattle.and_clauses.proofs.lifting.lifted_items.Goals as goal

abbrev first_piece : Piece
first_piece = Item (Call (record { 0 = 0 }))

pub loop-piece-init : goal.loop-piece-init
loop-piece-init c =
    let ss = nodes_under c.args.lifting in
    let ds = named_under c.args.lifting in
    let old = shapes_of c.args.nodes.now.items in record {
      lifted = none_so_far ss ds (numbering_at c.args.scope) (length (names_under c.args.lifting)) old
          (length old + pieces_size ds (map (piece_in ss) c.args.pieces.now))
          c.args.pieces.now c.in_ok-items.items.items c.in_ok-items.ensures.items c.requires.room refl;
    }

pub lifted_item-requires-clause-there : goal.lifted_item-requires-clause-there
lifted_item-requires-clause-there c =
    piece_there_at (length c.args.lifting.parts.now) (length c.args.lifting.disjunctions.now) c.args.pieces.now c.loop-piece.piece-index first_piece
    c.loop-piece-test.true c.requires.there

pub lifted_item-requires-clause-own : goal.lifted_item-requires-clause-own
lifted_item-requires-clause-own c =
    piece_own_at (nodes_under c.args.lifting) (named_under c.args.lifting) (numbering_at c.args.scope) c.args.pieces.now c.loop-piece.piece-index first_piece
    c.loop-piece-test.true c.requires.own

pub lifted_item-requires-clause-room : goal.lifted_item-requires-clause-room
lifted_item-requires-clause-room c =
    let ss = nodes_under c.args.lifting in
    let ds = named_under c.args.lifting in
    let old = shapes_of c.args.nodes.now.items in
    let p = get_or c.args.pieces.now c.loop-piece.piece-index first_piece in
    piece_room ss ds (numbering_at c.args.scope) (length (names_under c.args.lifting)) old (shapes_of c.loop-piece.nodes.items)
    (length old + pieces_size ds (map (piece_in ss) c.args.pieces.now)) c.args.pieces.now c.loop-piece.piece-index p c.loop-piece.items.items
    c.loop-piece.pairs
    c.loop-piece-test.true (get_or_default c.args.pieces.now c.loop-piece.piece-index first_piece p c.loop-piece-test.true) c.requires.room.room
    c.loop-piece.invariant.lifted

pub overflow_add-pairs : goal.overflow_add-pairs
overflow_add-pairs c =
    let ss = nodes_under c.args.lifting in
    let ds = named_under c.args.lifting in
    omega (
      arith,
      c.loop-piece.invariant.lifted.few,
      c.pairs_of-pairs.ensures.few,
      pieces_few ds ss c.args.pieces.now,
      c.requires.room.room,
      c.loop-piece-test.true,
    )

pub loop-piece-preserved : goal.loop-piece-preserved
loop-piece-preserved c =
    let ss = nodes_under c.args.lifting in
    let ds = named_under c.args.lifting in
    let old = shapes_of c.args.nodes.now.items in
    let p = get_or c.args.pieces.now c.loop-piece.piece-index first_piece in record {
      lifted = one_more ss ds (numbering_at c.args.scope) (length (names_under c.args.lifting)) old (shapes_of c.loop-piece.nodes.items)
          (shapes_of c.lifted_item.new.nodes.items)
          (length old + pieces_size ds (map (piece_in ss) c.args.pieces.now)) c.args.pieces.now c.loop-piece.piece-index p c.loop-piece.items.items
          c.push.new.self.items c.in_ok-item.item c.loop-piece.pairs (c.loop-piece.pairs + c.pairs_of-pairs.result) c.loop-piece-test.true
          (get_or_default c.args.pieces.now c.loop-piece.piece-index first_piece p c.loop-piece-test.true) c.loop-piece.invariant.lifted
          c.in_ok-item.ensures.grown
          c.in_ok-item.ensures.item c.in_ok-item.ensures.there c.in_ok-push.ensures.items (ap (λ k. c.loop-piece.pairs + k) c.pairs_of-pairs.ensures.pairs)
          (omega (arith, c.loop-piece.invariant.lifted.few, c.pairs_of-pairs.ensures.few));
    }

pub returns-clause-few : goal.returns-clause-few
returns-clause-few c =
    let ss = nodes_under c.args.lifting in
    let ds = named_under c.args.lifting in
    let old = shapes_of c.args.nodes.now.items in
    let size : pieces_size ds (map (piece_in ss) c.args.pieces.now) ≤ 524289 = omega (arith, c.requires.room.room) in
    so_far_few ss ds (numbering_at c.args.scope) (length (names_under c.args.lifting)) old (shapes_of c.loop-piece.nodes.items)
    (length old + pieces_size ds (map (piece_in ss) c.args.pieces.now)) c.args.pieces.now c.loop-piece.piece-index c.loop-piece.items.items c.loop-piece.pairs
    c.loop-piece-test.false c.loop-piece.invariant.lifted size
