use Rattle.std.proofs.Common.{◌≡◌, ◌++◌, List, drop}
use Rattle.and_histories.specs.PlainTree.{Key, children}
use Rattle.and_team_laws.specs.Owed.{SameItems}
use Rattle.and_tasks.proofs.team.Team.give_up_children.Given as goal

-- The keys of the children that are left are in the hand, whatever the others there are.
abbrev pub invariant-loop-place : goal.invariant-loop-place
invariant-loop-place g l =
    ((rest : List Key) → SameItems l.fn.self.pass.hand (children l.level.point.longer l.level.point.clauses ++ rest)
    → SameItems l.self.pass.hand (children l.level.point.longer (drop l.place l.level.point.clauses) ++ rest))
    × (l.self.pass.tree ≡ l.fn.self.pass.tree) × (l.self.number ≡ l.fn.self.number) × (l.self.found ≡ l.fn.self.found)
    × (l.self.stack ≡ l.fn.self.stack) × (l.self.left ≡ l.fn.self.left)
