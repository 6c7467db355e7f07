use Rattle.std.proofs.Common.{arith, subst}
use Rattle.and_phase.specs.Sighting.{IsSighted}
use Rattle.and_phase.proofs.Later.{later_same, later_then, later_branch, sighted_then}
use Rattle.and_phase.specs.declared.sighting.Sighted.{Sighted}
use Rattle.and_phase.proofs.sighting.look_over.Goals as goal

pub looks-init : goal.looks-init
looks-init g c = record { later = later_same g.N.Naming.program c.args.branch; branch = c.requires.branch; some = omega arith }

pub returns-in-Two-clause-sighted : goal.returns-in-Two-clause-sighted
returns-in-Two-clause-sighted g c =
    let P = g.N.Naming.program in
    let two = subst (λ (s : Sighted g.row.N.Denot). IsSighted P c.looks.branch s) c.in-Two.is c.look.ensures in
    (later_then P c.args.branch c.looks.branch _ c.looks.invariant.later two.0, two.1)

pub lead-requires-clause-branch : goal.lead-requires-clause-branch
lead-requires-clause-branch g c κs within =
    let P = g.N.Naming.program in
    let left = subst (λ (s : Sighted g.row.N.Denot). IsSighted P c.looks.branch s) c.in-NotTwo.is c.look.ensures in
    later_branch P c.looks.branch c.in-NotTwo.left left c.looks.invariant.branch

pub returns-then-not-has_changed-clause-sighted : goal.returns-then-not-has_changed-clause-sighted
returns-then-not-has_changed-clause-sighted g c =
    let P = g.N.Naming.program in
    let left = subst (λ (s : Sighted g.row.N.Denot). IsSighted P c.looks.branch s) c.in-NotTwo.is c.look.ensures in
    later_then P c.args.branch c.in-NotTwo.left _ (later_then P c.args.branch c.looks.branch c.in-NotTwo.left c.looks.invariant.later left)
    c.in_ok-led-in-NotTwo.ensures.later

pub looks-preserved : goal.looks-preserved
looks-preserved g c =
    let P = g.N.Naming.program in
    let left = subst (λ (s : Sighted g.row.N.Denot). IsSighted P c.looks.branch s) c.in-NotTwo.is c.look.ensures in
    let later = later_then P c.args.branch c.in-NotTwo.left c.in_ok-led-in-NotTwo.led.branch
    (later_then P c.args.branch c.looks.branch c.in-NotTwo.left c.looks.invariant.later left) c.in_ok-led-in-NotTwo.ensures.later in
    record {
      later = later;
      branch = later_branch P c.args.branch c.in_ok-led-in-NotTwo.led.branch later c.requires.branch;
      some = let doubled = c.saturating_mul-next.ensures in let some = c.looks.invariant.some in omega arith;
    }

pub returns-clause-sighted : goal.returns-clause-sighted
returns-clause-sighted g c =
    sighted_then g.N.Naming.program c.args.branch c.looks.branch c.looks.invariant.later c.look-sighted.result c.look-sighted.ensures
