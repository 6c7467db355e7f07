use Rattle.std.proofs.Common.{inr}
use Rattle.and_branch.specs.Parts.{held_of}
use Rattle.and_phase.specs.Sighting.{IsLater}
use Rattle.and_phase.proofs.Later.{advanced_then, led_branch}
use Rattle.and_phase.proofs.advanced.rested.Goals as goal

pub advance_to_state-requires-clause-branch : goal.advance_to_state-requires-clause-branch
advance_to_state-requires-clause-branch g c κs within =
    led_branch g.N.Naming.program (held_of c.args.parts.now) c.in-Ok.branch c.in-Ok.ensures.steps c.requires.branch

pub returns-then-comes_to_rest-clause-advanced : goal.returns-then-comes_to_rest-clause-advanced
returns-then-comes_to_rest-clause-advanced g c =
    let led = c.in-Ok-advance_to_state.ensures in
    let later : IsLater g.N.Naming.program (held_of c.args.parts.now) c.in-Ok.branch = record { same = c.in-Ok.ensures.same; steps = c.in-Ok.ensures.steps } in
    advanced_then g.N.Naming.program (held_of c.args.parts.now) c.in-Ok.branch later _ (record {
      same = c.advance_to_state.ensures.same;
      steps = record { each = led.steps; back = inr led.back };
      judged = led.judged;
      at_rest = led.at_rest;
      done = led.done;
    })
