use Rattle.std.proofs.Common.{◌≡◌, ◌∙◌, ◌++◌, ◌∷◌, sym, subst}
use Rattle.and_branch.specs.Branches.{Held}
use Rattle.and_branch.specs.Children.{Fork}
use Rattle.and_cells.specs.Ranges.{NamedProgram}
use Rattle.and_histories.specs.PlainTree.{children}
use Rattle.and_team_laws.specs.Owed.{SameItems}
use Rattle.and_tree.specs.Passes.{TreeId}
use Rattle.and_tasks.specs.declared.stack.Hand.{Hand}
use Rattle.and_tasks.specs.declared.stack.Level.{Level}
use Rattle.and_tasks.specs.declared.stack.Task.TheVariants.{One, Children}
use Rattle.and_tasks.proofs.Having.{all_keys, children_there}
use Rattle.and_tasks.proofs.Ready.{another_parted, another_ready, child_shares}
use Rattle.and_tasks.proofs.Sharing.{has_behind_given}
use Rattle.and_tasks.proofs.team.Team.another_child.Goals as goal

pub next_in_hand-requires-clause-children : goal.next_in_hand-requires-clause-children
next_in_hand-requires-clause-children g c =
    let s = c.args.self.now in
    children_there g.N.Naming.program c.args.shared.now.tree.now c.args.level s.stack.items s.pass c.requires.works.has

pub next_in_hand-requires-clause-some : goal.next_in_hand-requires-clause-some
next_in_hand-requires-clause-some g c = c.requires.works.has.tasks_are.0.some

pub give_up_children-requires-clause-hand : goal.give_up_children-requires-clause-hand
give_up_children-requires-clause-hand g c κs within =
    let s = c.args.self.now in
    let point : c.next_in_hand.new.self.point ≡ c.args.level.point = c.in_default.ensures.unchanged in (
      all_keys s.stack.items,
      subst (λ (f : Fork). SameItems s.pass.hand (children f.longer f.clauses ++ all_keys s.stack.items)) (sym point) c.requires.works.has.hand,
    )

pub put-requires-clause-has : goal.put-requires-clause-has
put-requires-clause-has g c κs within =
    let s = c.args.self.now in
    let b : Held = c.next_in_hand.new.hand.branch in (
      One b ∷ s.stack.items,
      another_parted g.N.Naming.program c.args.shared.now.tree.now s.pass s.found c.args.level c.next_in_hand.new.self b s.stack.items
          c.requires.works c.in-Ok.ensures.next.child c.requires.more c.next_in_hand.ensures.same,
    )

pub returns-in-Ok-put-clause-ready : goal.returns-in-Ok-put-clause-ready
returns-in-Ok-put-clause-ready g c =
    let P : NamedProgram = g.N.Naming.program in
    let tree : TreeId = c.args.shared.now.tree.now in
    let s = c.args.self.now in
    let m : Level g.row.N.Denot = c.next_in_hand.new.self in
    let was = c.args.hand.now in
    let h : Hand g.row.N.Denot = c.next_in_hand.new.hand in
    let t = c.put.new.self in
    let next = c.in-Ok.ensures.next in
    another_ready P tree s.pass s.found t.pass t.found c.args.level m h.branch h.told h.common s.stack.items t.stack.items c.requires.works
    next.child c.requires.more c.next_in_hand.ensures.same next.long next.told next.back c.requires.served
    (child_shares P tree s.pass s.found c.args.level was.branch s.stack.items was.common h.common c.requires.works c.requires.left
    c.requires.shares next.less next.inside)
    c.put.ensures.same.1 c.in-Ok-put.ensures.put

pub give_up_key-requires-clause-has : goal.give_up_key-requires-clause-has
give_up_key-requires-clause-has g c κs within =
    let P : NamedProgram = g.N.Naming.program in
    let tree : TreeId = c.args.shared.now.tree.now in
    let s = c.args.self.now in
    let t = c.put.new.self in
    let m : Level g.row.N.Denot = c.next_in_hand.new.self in
    let b : Held = c.next_in_hand.new.hand.branch in (
      b,
      c.of.ensures ∙ c.key.ensures,
      has_behind_given P tree s.pass t.pass (Children m) (One b) s.stack.items t.stack.items
          (another_parted P tree s.pass s.found c.args.level m b s.stack.items c.requires.works c.in-Ok.ensures.next.child c.requires.more
          c.next_in_hand.ensures.same) c.in-Err.ensures.given_up,
    )
