use Rattle.std.proofs.Common.{ℕ, ◌+◌, ◌*◌, ◌<◌, ◌≡◌, List, ◌∷◌, [], ◌++◌, sym, subst, arith}
use Rattle.std.proofs.lemmas.List.Elements.{All-push}
use Rattle.and_model.specs.declared.reference.Ref.TheVariants.{Cell}
use Rattle.and_cells.specs.Ranges.{IsInRange}
use Rattle.and_cells.specs.Seen.{IsWrittenIfNumber}
use Rattle.and_unify.specs.declared.pairs.Pair.{Pair}
use Rattle.and_unify.specs.Pairs.{AreInRange, AreWritten}
use Rattle.and_term_rows.proofs.races.neighbours.Goals as goal

pub loop-turn-preserved : goal.loop-turn-preserved
loop-turn-preserved g c =
    let P = g.N.Naming.program in
    let words : ℕ = c.args.store.now.about.words in
    let cell : ℕ = c.args.first + 2 * c.loop-turn.turn in
    let pair : Pair = record { left = Cell cell; right = Cell (cell + 1) } in
    let e = c.in_ok-push.ensures.ok in
    let first = c.requires.first in
    let many = c.requires.words in
    let test = c.loop-turn-test.true in
    let low : cell < words = omega (arith, first, many, test) in
    let high : cell + 1 < words = omega (arith, first, many, test) in (
      subst (AreInRange P words) (sym e)
          (All-push (λ (p : Pair). IsInRange P words p.left × IsInRange P words p.right) c.loop-turn.pairs pair c.loop-turn.invariant.0 (low, high)),
      λ s. subst (AreWritten s) (sym e)
          (All-push (λ (p : Pair). IsWrittenIfNumber s p.left × IsWrittenIfNumber s p.right) c.loop-turn.pairs pair (c.loop-turn.invariant.1 s)
          ((λ number k. absurd (cc)), (λ number k. absurd (cc)))),
    )
