use Rattle.std.proofs.Common.{◌≡◌, ◌++◌, [], List, length}
use Rattle.and_store.specs.Ended.{IsGathered}
use Rattle.and_store.specs.Passes.{PassSeen}
use Rattle.and_store.proofs.store.Store.gather.Given as goal

abbrev pub invariant-loop-pass : goal.invariant-loop-pass
invariant-loop-pass g l =
    (l.all.table_id ≡ l.self.table) × (l.all.me.1 ≡ [])
    × ((ps : List PassSeen) × (l.fn.passes ≡ l.passes ++ ps) × IsGathered l.self.about l.all.me.0 ps)

abbrev pub decreases-loop-pass : goal.decreases-loop-pass
decreases-loop-pass g l = length l.passes
