use Rattle.std.proofs.Common.{sym, subst}
use Rattle.and_branch.specs.Branches.{Held, IsBranch}
use Rattle.and_branch.specs.Parts.{held_of}
use Rattle.and_phase.proofs.Later.{later_equal, advanced_after}
use Rattle.and_phase.proofs.phasing.shared_out.Goals as goal

pub led_to_state-requires-clause-branch : goal.led_to_state-requires-clause-branch
led_to_state-requires-clause-branch g c κs within =
    subst (λ (b : Held). IsBranch g.N.Naming.program b) (sym c.in_ok-branch.ensures.branch) c.requires.branch

pub returns-clause-advanced : goal.returns-clause-advanced
returns-clause-advanced g c =
    let P = g.N.Naming.program in
    advanced_after P (held_of c.args.parts) c.in_ok-branch.branch
    (later_equal P (held_of c.args.parts) c.in_ok-branch.branch c.in_ok-branch.ensures.branch) c.led_to_state.result c.led_to_state.ensures.advanced
