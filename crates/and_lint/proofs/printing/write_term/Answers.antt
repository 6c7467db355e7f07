use Rattle.std.proofs.Common.{◌≡◌, ◌∙◌, ◌^◌, ◌<◌, ◌++◌, ◌∷◌, [], ℕ, List, length, map, ap, sym, subst, arith}
use Rattle.std.proofs.lemmas.List.{nil_from_length}
use Rattle.and_model.specs.Terms.{Path, Term}
use Rattle.and_model.specs.Lines.{Bytes, shown}
use Rattle.and_program.specs.Loaded.{program_of, skeleton_of}
use Rattle.and_program.specs.Skeletons.{Shape, node_term}
use Rattle.and_lint.specs.Kept.{unframed}
use Rattle.and_lint.specs.Printed.{AreTasksThere, Does, task_text}
use Rattle.and_lint.specs.declared.printing.Task.{Task}
use Rattle.and_lint.specs.declared.printing.Task.TheVariants.{Whole}
use Rattle.and_lint.proofs.Tasks.{first_task, last_task, less_left, one_task_done, tasks_popped}
use Rattle.and_lint.proofs.printing.write_term.Goals as goal

pub loop-task-init : goal.loop-task-init
loop-task-init c =
    let ss : List Shape = (skeleton_of c.args.loaded.now).nodes in
    let names : List Bytes = (program_of c.args.loaded.now).names in
    let vs : List (Path × ℕ) = map unframed c.in_ok-order.order.items in
    let one : c.push.new.self.items ≡ Whole c.args.node ∷ [] = rw c.new-work.ensures.items at c.in_ok-push.ensures.items in (
      subst (λ (ks : List Task). AreTasksThere (length ss) ks) (sym one) (c.requires, tt),
      first_task names vs ss c.args.node c.push.new.self.items c.args.text.now one,
    )

pub write_task-requires : goal.write_task-requires
write_task-requires c =
    (tasks_popped (length (skeleton_of c.args.loaded.now).nodes) c.pop.new.self.items c.in-Some.task
    (subst (λ (ks : List Task). AreTasksThere (length (skeleton_of c.args.loaded.now).nodes) ks) c.in-Some.ensures.items c.loop-task.invariant.0)).1

pub loop-task-smaller : goal.loop-task-smaller
loop-task-smaller c =
    let short : length c.write_task.new.text < 2 ^ 64 = let e = c.len-length.ensures in omega arith in
    less_left _ _ _ _ _ _ _ _ _ _ c.in_ok-write_task.ensures c.in-Some.ensures.items short

pub loop-task-preserved : goal.loop-task-preserved
loop-task-preserved c =
    let ss : List Shape = (skeleton_of c.args.loaded.now).nodes in
    let names : List Bytes = (program_of c.args.loaded.now).names in
    let there = tasks_popped (length ss) c.pop.new.self.items c.in-Some.task
    (subst (λ (ks : List Task). AreTasksThere (length ss) ks) c.in-Some.ensures.items c.loop-task.invariant.0) in (
      c.in_ok-write_task.ensures.there there.0,
      one_task_done names (map unframed c.in_ok-order.order.items) ss c.loop-task.work.items c.pop.new.self.items c.write_task.new.work.items c.in-Some.task
          c.loop-task.text c.write_task.new.text _ c.in-Some.ensures.items
          (subst (λ (ks : List ℕ). Does names (map unframed ks) ss (task_text names (map unframed ks) ss c.in-Some.task) c.pop.new.self.items
          c.write_task.new.work.items c.loop-task.text c.write_task.new.text) c.deref.ensures.value c.in_ok-write_task.ensures) c.loop-task.invariant.1,
    )

pub returns : goal.returns
returns c =
    let ss : List Shape = (skeleton_of c.args.loaded.now).nodes in
    let names : List Bytes = (program_of c.args.loaded.now).names in
    let t : Term = node_term ss c.args.node.0 in
    let empty : c.loop-task.work.items ≡ [] =
    nil_from_length c.loop-task.work.items (let e = c.in_default.ensures.cases.0 in let f = c.loop-task.work.ok.0 in omega arith) in
    last_task names (map unframed c.in_ok-order.order.items) ss c.loop-task.work.items c.loop-task.text _ empty c.loop-task.invariant.1
    ∙ ap (λ (vs : List (Path × ℕ)). c.args.text.now ++ shown names vs t) c.in_ok-order.ensures
