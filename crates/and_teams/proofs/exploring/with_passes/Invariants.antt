use Rattle.std.proofs.Common.{ℕ, ◌+◌, ◌≡◌, length, reverse}
use Rattle.and_tree.specs.Passes.{fresh_from}
use Rattle.and_teams.specs.Ended.{AreFresh}
use Rattle.and_teams.proofs.exploring.with_passes.Given as goal

-- Those that are left are of the first teams.
abbrev pub invariant-loop-pass : goal.invariant-loop-pass
invariant-loop-pass g l =
    (rest : ℕ) × (l.passes ≡ fresh_from l.shared.tree.now 0 rest) × AreFresh l.shared.tree.now rest (reverse l.teams.items)
    × (rest + length l.teams.items ≡ l.shared.teams)

abbrev pub decreases-loop-pass : goal.decreases-loop-pass
decreases-loop-pass g l = length l.passes
