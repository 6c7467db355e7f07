use Rattle.std.proofs.Common.{◌≡◌, ◌≤◌, ◌-◌, [], vec_capacity}
use Rattle.and_tree.specs.Passes.{fresh_from}
use Rattle.and_tree.proofs.Opened.{seat_from}
use Rattle.and_tree.proofs.tree.Tree.deal.Given as goal

abbrev pub invariant-loop-team : goal.invariant-loop-team
invariant-loop-team g l =
    (l.rest.table_id ≡ l.self.table) × (l.rest.me.1 ≡ []) × (l.rest.me.0 ≡ seat_from l.self.about (l.team - 1) (l.self.about.teams - (l.team - 1)))
    × (l.passes.items ≡ fresh_from l.self 0 (l.team - 1)) × (l.self.about.teams ≤ vec_capacity l.passes)
