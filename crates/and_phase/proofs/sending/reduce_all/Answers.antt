use Rattle.std.proofs.Common.{◌≡◌, ◌≤◌, ap, subst, sym}
use Rattle.std.proofs.lemmas.List.Elements.{All-weaker}
use Rattle.and_model.specs.declared.limits.TheConstants.{MAX_LIMIT}
use Rattle.and_store.specs.Passes.{PassSeen, StoreId}
use Rattle.and_store.specs.Sight.{About}
use Rattle.and_phase.proofs.sending.reduce_all.Goals as goal

pub close-requires-clause-store : goal.close-requires-clause-store
close-requires-clause-store g c = c.in_ok-passes.ensures.store c.in_ok-store.store c.in_ok-ended.ensures.store

pub returns-in-Ok : goal.returns-in-Ok
returns-in-Ok g c =
    let store = c.in_ok-store.store in
    let about = c.in_ok-store.ensures.about in
    record {
      about = store.about;
      first = ap (λ (a : About). a.first) about;
      short = subst (λ (a : About). a.words ≤ MAX_LIMIT) (sym about) c.requires.words.1;
      passes = c.in_ok-passes.passes;
      of_store = All-weaker (λ (p : PassSeen). p.store ≡ store) (λ (p : PassSeen). p.store.about ≡ store.about)
          (λ p e. ap (λ (s : StoreId). s.about) e) c.in_ok-passes.passes
          (c.in_ok-passes.ensures.store store c.in_ok-ended.ensures.store);
      journal = _;
      failed = c.in-Ok.closed.failed;
      closes = c.in-Ok.ensures.ok;
      hand_on = c.in_ok-passes.ensures.hand_on g.N.Naming.program c.in_ok-ended.ensures.hands_on;
    }
