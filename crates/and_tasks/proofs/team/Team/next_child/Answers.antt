use Rattle.std.proofs.Common.{◌∙◌, ◌++◌, ◌∷◌, [], Option, refl, sym, subst}
use Rattle.and_branch.specs.Branches.{Held}
use Rattle.and_tasks.specs.Working.{LeftShares}
use Rattle.and_tasks.specs.declared.stack.Task.TheVariants.{Children}
use Rattle.and_tasks.proofs.Serving.{none_served, served_off, served_top}
use Rattle.and_tasks.proofs.Turns.{works_popped}
use Rattle.and_tasks.proofs.team.Team.next_child.Goals as goal

pub unreachable-requires : goal.unreachable-requires
unreachable-requires g c =
    let s = c.args.self.now in
    none_served s.left s.stack.items c.args.level (sym c.take.ensures.value ∙ c.in_default.is) c.requires.at_work.served

pub child_in_hand-requires-clause-works : goal.child_in_hand-requires-clause-works
child_in_hand-requires-clause-works g c κs within =
    let s = c.args.self.now in
    works_popped g.N.Naming.program c.args.shared.now.tree.now s.pass s.found (Children c.args.level) s.stack.items
    (s.stack.items ++ Children c.args.level ∷ []) c.requires.at_work.works refl

pub child_in_hand-requires-clause-left : goal.child_in_hand-requires-clause-left
child_in_hand-requires-clause-left g c κs within =
    let s = c.args.self.now in
    served_top s.left s.stack.items c.args.level c.in-Some.left (sym c.take.ensures.value ∙ c.in-Some.is) c.requires.at_work.served

pub child_in_hand-requires-clause-served : goal.child_in_hand-requires-clause-served
child_in_hand-requires-clause-served g c κs within =
    let s = c.args.self.now in
    (served_off s.left s.stack.items (Children c.args.level) c.requires.at_work.served).0

pub child_in_hand-requires-clause-shares : goal.child_in_hand-requires-clause-shares
child_in_hand-requires-clause-shares g c κs within =
    let s = c.args.self.now in
    subst (λ (o : Option Held). LeftShares s.found s.common o) (sym c.take.ensures.value ∙ c.in-Some.is) s.left_shares
