use Rattle.std.proofs.Common.{◌≡◌, ◌<◌, ◌-◌, []}
use Rattle.and_store.specs.Passes.{fresh_from}
use Rattle.and_store.specs.Sight.{dealing}
use Rattle.and_store.proofs.store.Store.deal.Given as goal

abbrev pub invariant-loop-made : goal.invariant-loop-made
invariant-loop-made g l =
    (l.first.table_id ≡ l.self.table) × (l.first.me.1 ≡ []) × (l.first.me.0 ≡ dealing l.self.about l.made) × (0 < l.made)
    × (l.passes.items ≡ fresh_from l.self 1 (l.made - 1))
