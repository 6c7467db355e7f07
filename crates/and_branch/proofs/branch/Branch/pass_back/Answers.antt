use Rattle.std.proofs.Common.{refl, ◌∷◌, ◌∙◌, ap, Ok}
use Rattle.and_branch_parts.specs.Branches.{Held}
use Rattle.and_branch_parts.proofs.PassedGoals.{one_back}
use Rattle.and_branch_parts.proofs.SoughtGoals.{goes_back}
use Rattle.and_branch.proofs.branch.Branch.pass_back.Goals as goal

pub returns-clause-moved : goal.returns-clause-moved
returns-clause-moved g c =
    one_back _ c.args.self.now c.self.view_is c.self.inside.goals c.go_back.new.self (refl, refl, refl) c.in_ok-_is_there._is_there
    (λ e. c.go_back.ensures.none (c.in_ok-_is_there.was ∙ ap Ok e)) (λ e. c.go_back.ensures.back (c.in_ok-_is_there.was ∙ ap Ok e))

pub returns-clause-passed : goal.returns-clause-passed
returns-clause-passed g c = λ fs h is.
    let (left, right) = goes_back c.self.inside.goals c.go_back.new.self c.in_ok-_is_there._is_there
    (λ e. c.go_back.ensures.none (c.in_ok-_is_there.was ∙ ap Ok e)) (λ e. c.go_back.ensures.back (c.in_ok-_is_there.was ∙ ap Ok e))
    fs h (ap (λ (b : Held). b.left) c.self.view_is ∙ is) in
    (left, right ∙ ap (λ (b : Held). h ∷ b.right) c.self.view_is)
