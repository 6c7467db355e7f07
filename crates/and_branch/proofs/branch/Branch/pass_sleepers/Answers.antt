use Rattle.std.proofs.Common.{refl}
use Rattle.std.proofs.lemmas.Result.{on_ok_weaker}
use Rattle.and_branch_parts.proofs.WatchedGoals.{sleepers_moved, sleepers_passed, on_ok_sleepers}
use Rattle.and_branch.proofs.branch.Branch.pass_sleepers.Goals as goal

pub returns-clause-steps : goal.returns-clause-steps
returns-clause-steps g c =
    on_ok_sleepers g.N.Naming.program c.args.self.now _ c.pass_sleepers.result
    (λ h. sleepers_moved _ c.args.self.now c.self.view_is c.self.inside.goals refl refl refl c.pass_sleepers.new.self h)
    c.pass_sleepers.ensures

pub returns-clause-passed : goal.returns-clause-passed
returns-clause-passed g c =
    on_ok_weaker c.pass_sleepers.result
    (λ h. sleepers_passed _ c.args.self.now c.self.view_is c.self.inside.goals refl refl refl g.N.Naming.program c.requires.branch
    c.pass_sleepers.new.self h)
    c.pass_sleepers.ensures
