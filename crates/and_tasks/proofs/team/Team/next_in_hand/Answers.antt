use Rattle.std.proofs.Common.{◌∙◌, ◌++◌, ◌∷◌, [], List, ap, sym, arith}
use Rattle.and_tasks.specs.declared.stack.Task.{Task}
use Rattle.and_tasks.proofs.Topped.{no_branch_on_top, nothing_left_on_top, served_below, serves_top, works_below}
use Rattle.and_tasks.proofs.team.Team.next_in_hand.Goals as goal

pub next_on_top-requires-clause-fork : goal.next_on_top-requires-clause-fork
next_on_top-requires-clause-fork g c κs within =
    let (l, below, is, many) = c.left_on_top-left.ensures (λ none. omega (arith, none, c.if-left-gt1.true)) in
    (l, below, sym c.as_slice.ensures.value ∙ is, omega (arith, many, c.if-left-gt1.true))

pub child_in_hand-requires-clause-works : goal.child_in_hand-requires-clause-works
child_in_hand-requires-clause-works g c κs within =
    let s = c.args.self.now in
    let rest : List (Task g.row.N.Denot) = c.pop.new.self.items in
    works_below g.N.Naming.program c.args.shared.now.tree.now s.pass s.found s.stack.items rest c.in-Some-Children.level c.args.hand.now
    (c.in-Some-Children.ensures.items ∙ ap (λ (x : Task g.row.N.Denot). rest ++ x ∷ []) c.in-Some-Children.field-0-is) c.requires.left

pub child_in_hand-requires-clause-left : goal.child_in_hand-requires-clause-left
child_in_hand-requires-clause-left g c κs within =
    let s = c.args.self.now in
    let rest : List (Task g.row.N.Denot) = c.pop.new.self.items in
    serves_top g.N.Naming.program c.args.shared.now.tree.now s.pass s.found s.stack.items rest c.in-Some-Children.level c.args.hand.now
    (c.in-Some-Children.ensures.items ∙ ap (λ (x : Task g.row.N.Denot). rest ++ x ∷ []) c.in-Some-Children.field-0-is) c.requires.left

pub child_in_hand-requires-clause-served : goal.child_in_hand-requires-clause-served
child_in_hand-requires-clause-served g c κs within =
    let s = c.args.self.now in
    let rest : List (Task g.row.N.Denot) = c.pop.new.self.items in
    served_below g.N.Naming.program c.args.shared.now.tree.now s.pass s.found s.stack.items rest c.in-Some-Children.level c.args.hand.now
    (c.in-Some-Children.ensures.items ∙ ap (λ (x : Task g.row.N.Denot). rest ++ x ∷ []) c.in-Some-Children.field-0-is) c.requires.left

pub unreachable-requires : goal.unreachable-requires
unreachable-requires g c =
    let rest : List (Task g.row.N.Denot) = c.pop.new.self.items in
    let (l, below, is, many) = c.left_on_top-left.ensures c.if-left-eq0.false in
    no_branch_on_top below rest l c.in-Some-One._branch
    (sym is ∙ c.as_slice.ensures.value ∙ c.in-Some-One.ensures.items
    ∙ ap (λ (x : Task g.row.N.Denot). rest ++ x ∷ []) c.in-Some-One.field-0-is)

pub unreachable-requires-in-Some-Left : goal.unreachable-requires-in-Some-Left
unreachable-requires-in-Some-Left g c =
    let rest : List (Task g.row.N.Denot) = c.pop.new.self.items in
    let (l, below, is, many) = c.left_on_top-left.ensures c.if-left-eq0.false in
    nothing_left_on_top below rest l c.in-Some-Left._left
    (sym is ∙ c.as_slice.ensures.value ∙ c.in-Some-Left.ensures.items
    ∙ ap (λ (x : Task g.row.N.Denot). rest ++ x ∷ []) c.in-Some-Left.field-0-is)
