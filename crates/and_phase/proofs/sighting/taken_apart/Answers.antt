use Rattle.std.proofs.Common.{refl, ◌∙◌}
use Rattle.and_branch.specs.Parts.{held_of}
use Rattle.and_phase.proofs.Later.{later_equal, later_moved}
use Rattle.and_phase.proofs.sighting.taken_apart.Goals as goal

pub returns-in-Ok : goal.returns-in-Ok
returns-in-Ok g c =
    let parts = c.in-Ok.ensures.parts in
    (later_moved g.N.Naming.program c.args.branch (held_of c.in-Ok.parts) refl parts, parts.is_failed ∙ c.requires)

pub returns-in-Err : goal.returns-in-Err
returns-in-Err g c = later_equal g.N.Naming.program c.args.branch c.in-Err.branch c.in-Err.ensures.given_back
