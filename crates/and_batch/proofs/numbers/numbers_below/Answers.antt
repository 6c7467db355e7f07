use Rattle.std.proofs.Common.{ℕ, arith, ◌∷◌, ◌++◌, [], length, ap, sym, ◌∙◌}
use Rattle.and_shares.specs.declared.share.Share.{Share}
use Rattle.and_shares.specs.Balance.{share}
use Rattle.and_batch.proofs.Moves.{begins}
use Rattle.and_batch.proofs.BelowCount.{length-below, below-next}
use Rattle.and_batch.proofs.numbers.numbers_below.Goals as goal

pub ruled-requires-clause-rule : goal.ruled-requires-clause-rule
ruled-requires-clause-rule g c = begins

pub put-requires-clause-room : goal.put-requires-clause-room
put-requires-clause-room g c =
    let i = c.loop-number.invariant in
    let put = ap (λ (s : Share ℕ). length s.put) i.1 in
    omega (arith, length-below c.loop-number.number, i.2)

pub loop-number-preserved : goal.loop-number-preserved
loop-number-preserved g c =
    let i = c.loop-number.invariant in
    let n = c.loop-number.number in (
      c.put.ensures.pass,
      c.put.ensures.put ∙ ap (λ (s : Share ℕ). share 9 (s.put ++ n ∷ []) []) i.1 ∙ ap (λ ns. share 9 ns []) (sym (below-next n)),
      i.2,
    )
