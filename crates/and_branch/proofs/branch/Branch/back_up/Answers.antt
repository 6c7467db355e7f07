use Rattle.std.proofs.Common.{length, refl, ap, arith}
use Rattle.std.proofs.lemmas.List.{length-map}
use Rattle.std.proofs.lemmas.Result.{on_ok_weaker}
use Rattle.and_pending.specs.Pending.{Watched}
use Rattle.and_branch_parts.specs.Branches.{Held}
use Rattle.and_branch_parts.proofs.KeptOrigins.{noted_nothing}
use Rattle.and_branch_parts.proofs.PassedGoals.{goals_moved}
use Rattle.and_branch.proofs.branch.Branch.back_up.Goals as goal

pub returns-clause-moved : goal.returns-clause-moved
returns-clause-moved g c =
    on_ok_weaker c.go_back_over_sleepers.result
    (λ all. goals_moved _ c.args.self.now c.self.view_is c.self.inside.goals c.go_back_over_sleepers.new.self (refl, refl, refl) all _ _ refl
    (noted_nothing _ _)) c.go_back_over_sleepers.ensures.moved

pub returns-clause-before : goal.returns-clause-before
returns-clause-before g c = λ is.
    let fewer = c.go_back_over_sleepers.ensures.before is in
    let new = length-map c.go_back_over_sleepers.new.self.left (λ (w : Watched). w.goal) in
    let old = length-map c.self.inside.goals.left (λ (w : Watched). w.goal) in
    let was = ap (λ (b : Held). length b.left) c.self.view_is in
    omega arith
