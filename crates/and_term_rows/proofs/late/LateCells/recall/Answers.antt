use Rattle.std.proofs.Common.{◌<◌, length, get_or, ap, ◌∙◌, below_more, arith}
use Rattle.and_model.specs.Store.{Setting}
use Rattle.and_term_rows.proofs.Glimpses.{nothing, known_here, place_of}
use Rattle.and_term_rows.proofs.late.LateCells.recall.Goals as goal

pub returns-then-k-place-clause-some : goal.returns-then-k-place-clause-some
returns-then-k-place-clause-some g c =
    known_here c.args.self.now.known.items c.deref-k-items.result.now c.loop-k.k-index c.args.place c.deref-k-items.ensures.value
    c.loop-k-test.true c.if-k-place.true

pub returns-clause-none : goal.returns-clause-none
returns-clause-none g c = λ none r knows.
    let at = place_of c.args.self.now.known.items (record { place = c.args.place; value = r }) knows in
    let long = ap length c.deref-k-items.ensures.value in
    let below : at.0 < c.loop-k.k-index = omega (arith, at.1, c.loop-k-test.false) in
    c.loop-k.invariant at.0 below (ap (λ (s : Setting). s.place) at.2)

pub loop-k-preserved : goal.loop-k-preserved
loop-k-preserved g c = below_more _ _ c.loop-k.invariant
    (λ e. c.if-k-place.false (ap (λ xs. (get_or xs c.loop-k.k-index nothing).0) c.deref-k-items.ensures.value ∙ e))
