use Rattle.std.proofs.Common.{refl, arith}
use Rattle.and_judging.specs.Sorted.{with_piece}
use Rattle.and_judging.specs.Sorts.{piece_in, outline_in}
use Rattle.and_judging.proofs.Altering.{piece_more, unaltered}
use Rattle.and_judging.proofs.SortedThere.{set_there}
use Rattle.and_judging.proofs.sorting.add_piece.Goals as goal

pub returns-in_ok-push-clause-altered : goal.returns-in_ok-push-clause-altered
returns-in_ok-push-clause-altered c = λ ss. piece_more ss c.args.outlines.now.items c.args.place c.index_mut-outline.result.now
    (record { scope = c.index_mut-outline.result.now.scope; pieces = c.push.new.self }) c.args.piece
    (omega (arith, c.if-place-len.true, c.len.ensures)) c.index_mut-outline.ensures.value refl c.in_ok-push.ensures.ok

pub returns-else-place-len-clause-altered : goal.returns-else-place-len-clause-altered
returns-else-place-len-clause-altered c = λ ss. unaltered (outline_in ss) (with_piece (piece_in ss c.args.piece)) c.args.outlines.now.items c.args.place
    (omega (arith, c.if-place-len.false, c.len.ensures))

pub returns-in_ok-push-clause-there : goal.returns-in_ok-push-clause-there
returns-in_ok-push-clause-there c = λ n one all. set_there n c.args.outlines.now.items c.args.place c.index_mut-outline.result.now
    (record { scope = c.index_mut-outline.result.now.scope; pieces = c.push.new.self }) c.args.piece
    (omega (arith, c.if-place-len.true, c.len.ensures)) c.index_mut-outline.ensures.value c.in_ok-push.ensures.ok one all
