use Rattle.std.proofs.Common.{ℕ, arith, ◌≡◌, ◌-◌, ◌+◌, ◌∷◌, [], ap, ◌∙◌, length, length-append}
use Rattle.crossbeam_queue.specs.Passes.{view, IsPassOf}
use Rattle.and_shares.specs.declared.share.Share.{Share}
use Rattle.and_shares.specs.Balance.{share}
use Rattle.and_batch.proofs.Moves.{forks}
use Rattle.and_batch.proofs.Taking.{all_more}
use Rattle.and_batch.proofs.numbers.passes_of.Goals as goal

pub another-requires-clause-rule : goal.another-requires-clause-rule
another-requires-clause-rule c =
    let parts = ap (λ (s : Share ℕ). s.parts) c.loop.invariant.rest in
    forks _ _ (omega (arith, c.requires.workers, c.loop-test.true))

pub loop-preserved : goal.loop-preserved
loop-preserved c =
    let i = c.loop.invariant in
    let v = view c.args.whole.now in
    let k = c.loop.counter in
    let less : 9 - k - 1 ≡ 9 - (k + 1) = omega arith in
    let more = c.in_ok-push.ensures.items in
    let here = c.another.ensures in record {
      pass = (here.queue.0.0 ∙ i.pass.0, here.queue.0.2 ∙ i.pass.1);
      rest = here.rule.0 ∙ ap (λ (s : Share ℕ). share (s.parts - 1) s.put s.taken) i.rest ∙ ap (λ n. share n v.put v.taken) less;
      len = (let l = ap length more in omega (arith, length-append c.loop.passes.items (c.another.result ∷ []), i.len));
      fresh = all_more (λ p. IsPassOf c.args.numbers.now p × (view p ≡ share 1 [] [])) c.loop.passes.items c.push.new.self.items c.another.result i.fresh
          (here.queue.1, here.rule.1) more;
    }
