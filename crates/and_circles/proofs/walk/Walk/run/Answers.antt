use Rattle.std.proofs.Common.{length, ◌≤◌, arith}
use Rattle.and_circles.proofs.Resting.{rests_in_room}
use Rattle.and_circles.proofs.walk.Walk.run.Goals as goal

pub passes-requires-clause-rested : goal.passes-requires-clause-rested
passes-requires-clause-rested g c =
    let room : length c.args.cells.now ≤ length c.make_room.new.self = omega (arith, c.in_ok-make_room.ensures.room, c.len-count.ensures.value) in
    rests_in_room g.N.Naming.program c.args.cells.now c.args.self.now c.make_room.new.self c.make_slots.new.self c.len-count.ensures.sound c.requires.finished
    c.requires.at_rest room
    c.make_room.ensures.same c.make_slots.ensures
