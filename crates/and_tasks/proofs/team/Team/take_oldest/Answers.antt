use Rattle.std.proofs.Common.{ℕ, List, Some, arith, sym, subst}
use Rattle.std.specs.Prelude.{IfSome}
use Rattle.and_cells.specs.Ranges.{NamedProgram}
use Rattle.and_tasks.specs.Copying.{IsCopyAt}
use Rattle.and_tasks.specs.Working.{AreServed, AreTasks}
use Rattle.and_tasks.specs.declared.stack.Task.{Task}
use Rattle.and_tasks.proofs.Copied.{copy_first, served_off_below}
use Rattle.and_tasks.proofs.Having.{some_long, has_removed}
use Rattle.and_tasks.proofs.team.Team.take_oldest.Goals as goal

pub copy_for_oldest-requires-clause-tasks : goal.copy_for_oldest-requires-clause-tasks
copy_for_oldest-requires-clause-tasks g c =
    let P : NamedProgram = g.N.Naming.program in
    let limit : ℕ = c.args.shared.now.tree.now.about.limit in (
      limit,
      subst (λ (ts : List (Task g.row.N.Denot)). AreTasks P limit ts) (sym c.as_slice.ensures.value) c.requires.has.tasks_are,
    )

pub copy_for_oldest-requires-clause-served : goal.copy_for_oldest-requires-clause-served
copy_for_oldest-requires-clause-served g c =
    subst (λ (ts : List (Task g.row.N.Denot)). AreServed (Some c.args.left.now) ts) (sym c.as_slice.ensures.value) c.requires.served

pub remove-requires : goal.remove-requires
remove-requires g c =
    let long = c.args.self.now.stack.ok.0 in
    let some = some_long c.args.self.now.stack.items c.requires.some in
    omega (arith, long, some)

pub part_child-requires-clause-has : goal.part_child-requires-clause-has
part_child-requires-clause-has g c κs within =
    let s = c.args.self.now in
    has_removed g.N.Naming.program c.args.shared.now.tree.now s.pass s.stack.items c.remove.new.self.items c.remove.result _ c.requires.some
    c.remove.ensures.value c.remove.ensures.items c.in-Children.is c.requires.has

pub part_child-requires-clause-copy : goal.part_child-requires-clause-copy
part_child-requires-clause-copy g c κs within =
    let s = c.args.self.now in
    copy_first s.stack.items c.remove.new.self.items c.remove.result _ c.in_ok-copy.copy c.requires.some c.remove.ensures.value
    c.remove.ensures.items c.in-Children.is
    (subst (λ (ts : List (Task g.row.N.Denot)). IfSome c.in_ok-copy.copy (IsCopyAt ts 0)) c.as_slice.ensures.value c.in_ok-copy.ensures)

pub returns-in_ok-child-in-Children-clause-served : goal.returns-in_ok-child-in-Children-clause-served
returns-in_ok-child-in-Children-clause-served g c =
    let s = c.args.self.now in
    let left = Some c.args.left.now in
    c.in_ok-child-in-Children.ensures.served left
    (served_off_below left s.stack.items c.remove.new.self.items c.remove.result _ c.requires.some c.remove.ensures.value c.remove.ensures.items
    c.in-Children.is c.requires.served)
