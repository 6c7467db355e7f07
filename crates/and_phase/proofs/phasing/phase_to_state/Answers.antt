use Rattle.std.proofs.Common.{subst}
use Rattle.and_branch.specs.Parts.{held_of}
use Rattle.and_phase.specs.Sighting.{IsSighted}
use Rattle.and_phase.specs.declared.sighting.Sighted.{Sighted}
use Rattle.and_phase.proofs.Later.{later_branch, advanced_after}
use Rattle.and_phase.proofs.phasing.phase_to_state.Goals as goal

pub shared_out-requires-clause-branch : goal.shared_out-requires-clause-branch
shared_out-requires-clause-branch g c κs within =
    let P = g.N.Naming.program in
    let two = subst (λ (s : Sighted g.row.N.Denot). IsSighted P c.args.branch s) c.in-Two.is c.in_ok-looked.ensures.sighted in
    later_branch P c.args.branch (held_of c.in-Two.parts) two.0 c.requires.branch

pub returns-in-Two-clause-advanced : goal.returns-in-Two-clause-advanced
returns-in-Two-clause-advanced g c =
    let P = g.N.Naming.program in
    let two = subst (λ (s : Sighted g.row.N.Denot). IsSighted P c.args.branch s) c.in-Two.is c.in_ok-looked.ensures.sighted in
    advanced_after P c.args.branch (held_of c.in-Two.parts) two.0 c.shared_out.result c.shared_out.ensures.advanced

pub led_to_state-requires-in-NotTwo-clause-branch : goal.led_to_state-requires-in-NotTwo-clause-branch
led_to_state-requires-in-NotTwo-clause-branch g c κs within =
    let P = g.N.Naming.program in
    let left = subst (λ (s : Sighted g.row.N.Denot). IsSighted P c.args.branch s) c.in-NotTwo.is c.in_ok-looked.ensures.sighted in
    later_branch P c.args.branch c.in-NotTwo.branch left c.requires.branch

pub returns-in-NotTwo-clause-advanced : goal.returns-in-NotTwo-clause-advanced
returns-in-NotTwo-clause-advanced g c =
    let P = g.N.Naming.program in
    let left = subst (λ (s : Sighted g.row.N.Denot). IsSighted P c.args.branch s) c.in-NotTwo.is c.in_ok-looked.ensures.sighted in
    advanced_after P c.args.branch c.in-NotTwo.branch left c.led_to_state-in-NotTwo.result c.led_to_state-in-NotTwo.ensures.advanced
