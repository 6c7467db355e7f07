use Rattle.std.proofs.Common.{refl}
use Rattle.and_branch_parts.proofs.LoadedPrograms.{is_loaded}
use Rattle.and_branch_parts.proofs.RoundsKept.{still_found, idle_asleep, same_still}
use Rattle.and_branch_parts.proofs.WatchedGoals.{left_asleep}
use Rattle.and_branch.proofs.branch.Branch.round_ended.Goals as goal

pub returns-then-not-changed-clause-still : goal.returns-then-not-changed-clause-still
returns-then-not-changed-clause-still g c = λ f e.
    let P = g.N.Naming.program in
    let idle = c.requires.seen c.if-not-changed.true in
    same_still P c.args.self.now c.found_with.result f e
    (still_found P c.args.self.now c.found_with.result c.requires.past c.requires.live idle.0 c.found_with.ensures)

pub found_with-requires-then-are_asleep-clause-seen : goal.found_with-requires-then-are_asleep-clause-seen
found_with-requires-then-are_asleep-clause-seen g c =
    let P = g.N.Naming.program in
    let says = c.skeleton_is_of_the_program.ensures in
    let loaded = is_loaded P c.args.loaded.now c.requires.program says.skeleton says.own_variables says.few in
    let sleep = left_asleep _ c.args.self.now c.self.view_is c.self.inside.goals refl refl refl P c.requires.branch c.requires.live
    (c.are_asleep.ensures c.if-are_asleep.true) in
    let both = idle_asleep P loaded c.args.self.now c.requires.branch c.requires.live sleep in
    both.1

pub returns-then-are_asleep-clause-still : goal.returns-then-are_asleep-clause-still
returns-then-are_asleep-clause-still g c = λ f e.
    let P = g.N.Naming.program in
    let says = c.skeleton_is_of_the_program.ensures in
    let loaded = is_loaded P c.args.loaded.now c.requires.program says.skeleton says.own_variables says.few in
    let sleep = left_asleep _ c.args.self.now c.self.view_is c.self.inside.goals refl refl refl P c.requires.branch c.requires.live
    (c.are_asleep.ensures c.if-are_asleep.true) in
    let both = idle_asleep P loaded c.args.self.now c.requires.branch c.requires.live sleep in
    same_still P c.args.self.now c.found_with-then-are_asleep.result f e
    (still_found P c.args.self.now c.found_with-then-are_asleep.result c.requires.past c.requires.live both.0 c.found_with-then-are_asleep.ensures)
