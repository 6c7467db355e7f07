use Rattle.std.proofs.Common.{sym, ◌∙◌, ap}
use Rattle.and_branch_parts.specs.Branches.{Held}
use Rattle.and_branch_parts.proofs.SoughtGoals.{next_there, none_next}
use Rattle.and_branch.proofs.branch.Branch.has_next.Goals as goal

pub returns-clause-next : goal.returns-clause-next
returns-clause-next g c = λ e.
    let (h, rest, is) = next_there c.self.inside.goals c.next.result c.next.ensures.some (sym c.is_some.ensures ∙ e) in
    (h, rest, sym (ap (λ (b : Held). b.right) c.self.view_is) ∙ is)

pub returns-clause-none : goal.returns-clause-none
returns-clause-none g c = λ e.
    sym (ap (λ (b : Held). b.right) c.self.view_is) ∙ none_next c.self.inside.goals c.next.result c.next.ensures.none (sym c.is_some.ensures ∙ e)
