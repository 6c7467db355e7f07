use Rattle.std.proofs.Common.{◌≡◌, Ok, true, false, rules, sym, subst}
use Rattle.and_branch.specs.Branches.{Held}
use Rattle.and_phase.specs.Sighting.{IsSighted}
use Rattle.and_phase.proofs.Later.{later_equal}
use Rattle.and_phase.proofs.sighting.look.Goals as goal

pub taken_apart-requires : goal.taken_apart-requires
taken_apart-requires g c =
    let is : c.has_two.result ≡ Ok true = search rules in
    subst (λ (b : Held). b.is_failed ≡ false) (sym c.has_two.ensures.unchanged) (c.has_two.ensures.live is)

pub returns-in-Ok-true : goal.returns-in-Ok-true
returns-in-Ok-true g c =
    subst (λ (b : Held). IsSighted g.N.Naming.program b c.taken_apart.result) c.has_two.ensures.unchanged c.taken_apart.ensures

pub returns-in-Ok-false : goal.returns-in-Ok-false
returns-in-Ok-false g c = later_equal g.N.Naming.program c.args.branch _ c.has_two.ensures.unchanged

pub returns-in-Err : goal.returns-in-Err
returns-in-Err g c = later_equal g.N.Naming.program c.args.branch _ c.has_two.ensures.unchanged
