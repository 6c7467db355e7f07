use Rattle.std.proofs.Common.{List, ℕ, length, ap, sym, subst, ◌∙◌}
use Rattle.and_branch_parts.specs.Branches.{Held}
use Rattle.and_branch_parts.specs.Children.{AreChildren}
use Rattle.and_branch.specs.Outlines.{IsOutlineOf}
use Rattle.and_branch_parts.specs.Forking.{numbers}
use Rattle.and_branch_parts.proofs.ForkReduced.{are_children}
use Rattle.and_branch_parts.proofs.KeptOrigins.{back_by_key}
use Rattle.and_branch.proofs.OutlinedBranches.{outline_by_key}
use Rattle.and_branch.proofs.branch.Branch.fork_in_place.Goals as goal

pub decide-requires-clause-goal : goal.decide-requires-clause-goal
decide-requires-clause-goal g c = let (u, o, cut, y, is_open, state) = c.requires.fork in (u, o, y, is_open)

pub returns-clause-children : goal.returns-clause-children
returns-clause-children g c = λ t x.
    let P = g.N.Naming.program in
    let code = c.decide.new.self.key in
    let children = are_children P c.args.self.now c.args.goal code (numbers c.args.clauses) c.in_ok-decide.ensures.decided c.requires.fork t x in
    subst (λ (longer : List ℕ). AreChildren P (record {
      parent = c.of-parent.result.value;
      goal = c.args.goal;
      longer = longer;
      clauses = numbers c.args.clauses;
    }) t) (sym (c.of-longer.ensures ∙ c.key.ensures))
    (subst (λ (b : Held). AreChildren P (record { parent = b; goal = c.args.goal; longer = code; clauses = numbers c.args.clauses }) t)
    (sym c.of-parent.ensures) children)

pub returns-clause-back : goal.returns-clause-back
returns-clause-back g c =
    back_by_key c.args.self.now c.decide.new.self c.in_ok-decide.ensures.same c.give_outline-outline.new.self c.give_outline-outline.ensures.back

pub invariant_of-choicepoint : goal.invariant_of-choicepoint
invariant_of-choicepoint g c = (
  subst (λ (b : Held). IsOutlineOf b c.give_outline-outline.result) (sym c.of-parent.ensures)
      (outline_by_key c.args.self.now c.decide.new.self c.in_ok-decide.ensures.same c.give_outline-outline.result
      c.give_outline-outline.ensures.outline),
  ap (λ (l : List ℕ). length l) (c.of-longer.ensures ∙ c.key.ensures ∙ sym c.key-2.ensures) ∙ sym c.len-decided.ensures,
)
