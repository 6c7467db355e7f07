use Rattle.std.proofs.Common.{[], ◌≢◌, ap, sym, subst}
use Rattle.and_cells.specs.Rows.{IsSound}
use Rattle.and_branch_parts.specs.Branches.{Held}
use Rattle.and_branch_parts.specs.Children.{Fork}
use Rattle.and_branch_parts.specs.Making.{noted_from}
use Rattle.and_branch_parts.specs.Origins.{GoesBack}
use Rattle.and_branch_parts.proofs.ForkReduced.{again_by, child_by, kept_fork, parent_sound, some_left}
use Rattle.and_branch_parts.proofs.KeptOrigins.{goes_nowhere}
use Rattle.and_branch.proofs.choicepoint.Choicepoint.next_in_place.Goals as goal

pub at-clause-requires : goal.at-clause-requires
at-clause-requires g c =
    some_left c.self.inside.clauses c.self.inside.made (subst (λ (h : Fork). h.clauses ≢ []) (sym c.self.view_is) c.requires.some)

pub become_again-requires-clause-sound : goal.become_again-requires-clause-sound
become_again-requires-clause-sound g c =
    let P = g.N.Naming.program in
    let (t, k) = c.requires.children in
    subst (λ (h : Fork). IsSound P h.parent.row) (sym c.self.view_is) (parent_sound P c.args.self.now t k)

pub become_again-requires-clause-back : goal.become_again-requires-clause-back
become_again-requires-clause-back g c =
    subst (λ (h : Fork). GoesBack h.parent c.args.branch.now) (sym c.self.view_is) c.requires.back

pub become_child-requires-clause-again : goal.become_child-requires-clause-again
become_child-requires-clause-again g c =
    let i = c.self.inside in
    let parent = i.parent.value in (
      kept_fork parent i.goal i.longer.value i.clauses,
      again_by g.N.Naming.program parent i.goal i.longer.value i.clauses i.made c.args.self.now c.self.view_is c.at-clause.result.now
          c.at-clause.ensures c.requires.children i.decided c.self.invariant.1 c.args.branch.now c.requires.key (noted_from parent.row)
          c.become_again.new.self c.in_ok-become_again.ensures,
    )

pub returns-clause-child : goal.returns-clause-child
returns-clause-child g c =
    let P = g.N.Naming.program in
    let i = c.self.inside in
    let parent = i.parent.value in
    let again = again_by P parent i.goal i.longer.value i.clauses i.made c.args.self.now c.self.view_is c.at-clause.result.now c.at-clause.ensures
    c.requires.children i.decided c.self.invariant.1 c.args.branch.now c.requires.key (noted_from parent.row) c.become_again.new.self
    c.in_ok-become_again.ensures in
    child_by P parent i.goal i.longer.value i.clauses i.made c.args.self.now c.self.view_is c.at-clause.result.now c.at-clause.ensures
    c.become_child.new.self (c.in_ok-become_child.ensures.made (kept_fork parent i.goal i.longer.value i.clauses) again)

pub returns-clause-back : goal.returns-clause-back
returns-clause-back g c =
    let parent = c.self.inside.parent.value in
    let is = c.in_ok-become_again.ensures in
    let nowhere = goes_nowhere parent c.become_again.new.self (ap (λ (h : Held). h.row) is) (ap (λ (h : Held). h.reductions) is)
    (ap (λ (h : Held). h.trail) is) in
    subst (λ (h : Fork). GoesBack h.parent c.become_child.new.self) c.self.view_is (c.in_ok-become_child.ensures.back.again parent nowhere)
