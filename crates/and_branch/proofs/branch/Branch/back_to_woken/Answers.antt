use Rattle.std.proofs.Common.{length, refl, ap, arith}
use Rattle.std.proofs.lemmas.List.{length-map}
use Rattle.std.proofs.lemmas.Result.{on_ok_weaker}
use Rattle.and_pending.specs.Pending.{Watched}
use Rattle.and_branch_parts.specs.Branches.{Held}
use Rattle.and_branch_parts.proofs.KeptOrigins.{noted_nothing}
use Rattle.and_branch_parts.proofs.PassedGoals.{goals_moved}
use Rattle.and_branch.proofs.branch.Branch.back_to_woken.Goals as goal

pub returns-clause-moved : goal.returns-clause-moved
returns-clause-moved g c =
    on_ok_weaker c.go_back_to_woken.result
    (λ all. goals_moved _ c.args.self.now c.self.view_is c.self.inside.goals c.go_back_to_woken.new.self (refl, refl, refl) all _ _ refl
    (noted_nothing _ _)) c.go_back_to_woken.ensures.moved

pub returns-clause-near : goal.returns-clause-near
returns-clause-near g c =
    on_ok_weaker c.go_back_to_woken.result
    (λ near.
    (let new = length-map c.go_back_to_woken.new.self.right (λ (w : Watched). w.goal) in
    let old = length-map c.self.inside.goals.right (λ (w : Watched). w.goal) in
    let was = ap (λ (b : Held). length b.right) c.self.view_is in
    omega arith)) c.go_back_to_woken.ensures.near
