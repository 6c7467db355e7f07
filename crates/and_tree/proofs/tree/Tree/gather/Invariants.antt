use Rattle.std.proofs.Common.{◌≡◌, ◌++◌, [], List, length}
use Rattle.and_tree.specs.Counted.{tally}
use Rattle.and_tree.specs.Ended.{IsGathered, tally_of_all}
use Rattle.and_tree.specs.Passes.{PassSeen}
use Rattle.and_tree.proofs.tree.Tree.gather.Given as goal

abbrev pub invariant-loop-pass : goal.invariant-loop-pass
invariant-loop-pass g l =
    (l.all.table_id ≡ l.self.table) × (l.all.me.1 ≡ [])
    × ((ps : List PassSeen) × (l.fn.passes ≡ l.passes ++ ps) × IsGathered l.self.about l.all.me.0 ps × (tally l.counts ≡ tally_of_all ps))

abbrev pub decreases-loop-pass : goal.decreases-loop-pass
decreases-loop-pass g l = length l.passes
