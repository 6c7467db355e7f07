use Rattle.std.proofs.Common.{ap, subst}
use Rattle.and_store.specs.Calls.{Fails}
use Rattle.and_store.specs.Told.{mine_of}
use Rattle.and_store.proofs.Telling.{fail_tells}
use Rattle.and_store.proofs.store.Store.fail.Goals as goal

pub returns-clause-fails : goal.returns-clause-fails
returns-clause-fails g c =
    subst (λ p. Fails p (mine_of c.raise_fail.new.seat.me.0).pass) (ap (λ z. z.pass) c.pass.view_is)
    (fail_tells g.N.Naming.program _ _ c.raise_fail.ensures.told.0)
