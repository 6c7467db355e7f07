use Rattle.std.proofs.Common.{ap, subst}
use Rattle.std.specs.Prelude.{nat_eq, not}
use Rattle.and_store.specs.Calls.{FindsFailed}
use Rattle.and_store.specs.Told.{mine_of}
use Rattle.and_store.proofs.Telling.{failed_tells}
use Rattle.and_store.proofs.store.Store.failed.Goals as goal

pub returns-clause-found : goal.returns-clause-found
returns-clause-found g c =
    subst (λ p. FindsFailed (not (nat_eq c.look_at_fail.result 0)) p (mine_of c.look_at_fail.new.seat.me.0).pass) (ap (λ z. z.pass) c.pass.view_is)
    (failed_tells g.N.Naming.program _ c.look_at_fail.result _ c.look_at_fail.ensures.told.0)
