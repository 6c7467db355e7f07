use Rattle.std.proofs.Common.{◌≡◌, ◌∙◌, ◌∷◌, ◌++◌, List, refl, ap, sym, subst, arith}
use Rattle.std.specs.Prelude.{IfSome}
use Rattle.and_cells.specs.Ranges.{NamedProgram}
use Rattle.and_branch.specs.Branches.{Held}
use Rattle.and_branch.specs.Children.{Fork}
use Rattle.and_histories.specs.PlainTree.{children}
use Rattle.and_team_laws.specs.Owed.{SameItems}
use Rattle.and_tree.specs.Passes.{TreeId}
use Rattle.and_tasks.specs.Copying.{IsCopyOf}
use Rattle.and_tasks.specs.Working.{AreServed}
use Rattle.and_tasks.specs.declared.stack.Level.{Level}
use Rattle.and_tasks.specs.declared.stack.Task.{Task}
use Rattle.and_tasks.specs.declared.stack.Task.TheVariants.{One, Children}
use Rattle.and_tasks.proofs.Copied.{copy_serves, served_next}
use Rattle.and_tasks.proofs.Having.{all_keys, has_swapped, only_parted, rest_parted, some_left}
use Rattle.and_tasks.proofs.Sharing.{has_behind_given, has_put_below}
use Rattle.and_tasks.proofs.team.Team.part_child.Goals as goal

pub next-requires-clause-left : goal.next-requires-clause-left
next-requires-clause-left g c = copy_serves c.args.level c.in-Some.left (subst (λ o. IfSome o (IsCopyOf c.args.level)) c.in-Some.is c.requires.copy)

pub give_up_children-requires-in_default-next-clause-hand : goal.give_up_children-requires-in_default-next-clause-hand
give_up_children-requires-in_default-next-clause-hand g c κs within =
    let s = c.args.self.now in
    let point : c.next.new.self.point ≡ c.args.level.point = c.in_default-next.ensures.unchanged in (
      all_keys s.stack.items,
      subst (λ (f : Fork). SameItems s.pass.hand (children f.longer f.clauses ++ all_keys s.stack.items)) (sym point) c.requires.has.hand,
    )

pub returns-then-left-eq0-clause-branch : goal.returns-then-left-eq0-clause-branch
returns-then-left-eq0-clause-branch g c =
    let P : NamedProgram = g.N.Naming.program in
    let tree : TreeId = c.args.shared.now.tree.now in
    let s = c.args.self.now in
    let b : Held = c.next.new.branch in
    let m : Level g.row.N.Denot = c.next.new.self in
    (refl, only_parted P tree c.args.level m b s.stack.items s.pass c.in-Ok.ensures.child (omega (arith, c.left.ensures, c.if-left-eq0.true)) c.requires.has)

pub put_below-requires-clause-has : goal.put_below-requires-clause-has
put_below-requires-clause-has g c κs within =
    let s = c.args.self.now in
    let m : Level g.row.N.Denot = c.next.new.self in
    let some = some_left m.point.clauses (λ none. c.if-left-eq0.false (c.left.ensures ∙ none)) in (
      One c.next.new.branch ∷ s.stack.items,
      rest_parted g.N.Naming.program c.args.shared.now.tree.now c.args.level m c.next.new.branch s.stack.items s.pass c.in-Ok.ensures.child
          c.next.ensures.same some c.requires.has,
    )

pub give_up_key-requires-clause-has : goal.give_up_key-requires-clause-has
give_up_key-requires-clause-has g c κs within =
    let P : NamedProgram = g.N.Naming.program in
    let tree : TreeId = c.args.shared.now.tree.now in
    let s = c.args.self.now in
    let t = c.put_below.new.self in
    let m : Level g.row.N.Denot = c.next.new.self in
    let b : Held = c.next.new.branch in
    let some = some_left m.point.clauses (λ none. c.if-left-eq0.false (c.left.ensures ∙ none)) in (
      b,
      c.of.ensures ∙ c.key.ensures,
      has_behind_given P tree s.pass t.pass (Children m) (One b) s.stack.items t.stack.items
          (rest_parted P tree c.args.level m b s.stack.items s.pass c.in-Ok.ensures.child c.next.ensures.same some c.requires.has)
          c.in-Err.ensures.given_up,
    )

pub returns-in-Ok-put_below-clause-branch : goal.returns-in-Ok-put_below-clause-branch
returns-in-Ok-put_below-clause-branch g c =
    let P : NamedProgram = g.N.Naming.program in
    let tree : TreeId = c.args.shared.now.tree.now in
    let s = c.args.self.now in
    let t = c.put_below.new.self in
    let m : Level g.row.N.Denot = c.next.new.self in
    let b : Held = c.next.new.branch in
    let some = some_left m.point.clauses (λ none. c.if-left-eq0.false (c.left.ensures ∙ none)) in
    let put = c.in-Ok-put_below.ensures.put in (
      put.0,
      has_put_below P tree s.pass t.pass (One b ∷ Children m ∷ s.stack.items) (One b ∷ t.stack.items)
          (has_swapped P tree s.pass (Children m) (One b) s.stack.items
          (rest_parted P tree c.args.level m b s.stack.items s.pass c.in-Ok.ensures.child c.next.ensures.same some c.requires.has))
          (put.0, ap (λ (ts : List (Task g.row.N.Denot)). One b ∷ ts) put.1),
    )

pub returns-in-Ok-put_below-clause-served : goal.returns-in-Ok-put_below-clause-served
returns-in-Ok-put_below-clause-served g c = λ on_top served.
    let s = c.args.self.now in
    let m : Level g.row.N.Denot = c.next.new.self in
    subst (λ (ts : List (Task g.row.N.Denot)). AreServed on_top ts) (sym c.in-Ok-put_below.ensures.put.1)
    (served_next g.N.Naming.program on_top c.args.level m c.next.new.branch s.stack.items c.in-Ok.ensures.child served)

pub returns-then-left-eq0-clause-served : goal.returns-then-left-eq0-clause-served
returns-then-left-eq0-clause-served g c = λ on_top served. served.1
