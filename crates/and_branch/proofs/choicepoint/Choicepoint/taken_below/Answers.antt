use Rattle.std.proofs.Common.{sym, subst}
use Rattle.and_cells.specs.Rows.{IsSound}
use Rattle.and_branch_parts.specs.Children.{Fork}
use Rattle.and_branch_parts.specs.Copies.{IsBackAt}
use Rattle.and_branch_parts.specs.Origins.{GoesBack}
use Rattle.and_branch_parts.proofs.ForkReduced.{parent_sound}
use Rattle.and_branch.proofs.choicepoint.Choicepoint.taken_below.Goals as goal

pub go_below-requires-clause-sound : goal.go_below-requires-clause-sound
go_below-requires-clause-sound g c =
    let P = g.N.Naming.program in
    let (t, k) = c.requires.children in
    subst (λ (h : Fork). IsSound P h.parent.row) (sym c.self.view_is) (parent_sound P c.args.self.now t k)

pub go_below-requires-clause-below : goal.go_below-requires-clause-below
go_below-requires-clause-below g c =
    let below = c.requires.below in
    let lower = subst (λ (h : Fork). GoesBack h.parent c.args.above.now.parent) (sym c.self.view_is) below in
    subst (λ (h : Fork). GoesBack c.self.inside.parent.value h.parent) (sym c.above.view_is) lower

pub go_below-requires-clause-back : goal.go_below-requires-clause-back
go_below-requires-clause-back g c = subst (λ (h : Fork). IsBackAt h.parent c.args.copy) (sym c.above.view_is) c.requires.copy

pub returns-clause-back : goal.returns-clause-back
returns-clause-back g c = subst (λ (h : Fork). IsBackAt h.parent c.go_below.new.self) c.self.view_is c.go_below.ensures.back
