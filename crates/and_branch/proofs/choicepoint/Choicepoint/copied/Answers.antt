use Rattle.std.proofs.Common.{sym, subst}
use Rattle.std.specs.Prelude.{IfOk}
use Rattle.and_cells.specs.Rows.{IsSound}
use Rattle.and_branch_parts.specs.Children.{Fork}
use Rattle.and_branch_parts.specs.Copies.{IsBackAt}
use Rattle.and_branch_parts.specs.Origins.{GoesBack}
use Rattle.and_branch_parts.proofs.ForkReduced.{parent_sound}
use Rattle.and_branch.proofs.choicepoint.Choicepoint.copied.Goals as goal

pub copied_back-requires-clause-sound : goal.copied_back-requires-clause-sound
copied_back-requires-clause-sound g c =
    let P = g.N.Naming.program in
    let (t, k) = c.requires.children in
    subst (λ (h : Fork). IsSound P h.parent.row) (sym c.self.view_is) (parent_sound P c.args.self.now t k)

pub copied_back-requires-clause-back : goal.copied_back-requires-clause-back
copied_back-requires-clause-back g c = subst (λ (h : Fork). GoesBack h.parent c.args.left.now) (sym c.self.view_is) c.requires.back

pub returns-clause-back : goal.returns-clause-back
returns-clause-back g c = subst (λ (h : Fork). IfOk c.copied_back.result (IsBackAt h.parent)) c.self.view_is c.copied_back.ensures.back
