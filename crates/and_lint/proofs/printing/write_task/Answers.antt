use Rattle.std.proofs.Common.{◌∷◌, [], ℕ, List, map, sym, subst, OnOk}
use Rattle.std.proofs.lemmas.Result.{on_ok_weaker}
use Rattle.and_model.specs.Terms.{Path}
use Rattle.and_model.specs.Lines.{Bytes}
use Rattle.and_program.specs.Loaded.{program_of, skeleton_of}
use Rattle.and_program.specs.Skeletons.{Shape}
use Rattle.and_lint.specs.Kept.{unframed}
use Rattle.and_lint.specs.Printed.{Does, task_text}
use Rattle.and_lint.specs.declared.printing.Task.{Task}
use Rattle.and_lint.proofs.Tasks.{does_text}
use Rattle.and_lint.proofs.printing.write_task.Goals as goal

pub returns-in-Tail : goal.returns-in-Tail
returns-in-Tail c =
    let ss : List Shape = (skeleton_of c.args.loaded.now).nodes in
    let names : List Bytes = (program_of c.args.loaded.now).names in
    let vs : List (Path × ℕ) = map unframed c.args.order.now in
    subst (λ (k : Task). OnOk c.write_tail.result
    (Does names vs ss (task_text names vs ss k) c.args.work.now.items c.write_tail.new.work.items c.args.text.now c.write_tail.new.text))
    (sym c.in-Tail.is) (c.write_tail.ensures vs)

pub returns-in-Rest : goal.returns-in-Rest
returns-in-Rest c =
    let ss : List Shape = (skeleton_of c.args.loaded.now).nodes in
    let names : List Bytes = (program_of c.args.loaded.now).names in
    let vs : List (Path × ℕ) = map unframed c.args.order.now in
    subst (λ (k : Task). OnOk c.write_rest.result
    (Does names vs ss (task_text names vs ss k) c.args.work.now.items c.write_rest.new.work.items c.args.text.now c.write_rest.new.text))
    (sym c.in-Rest.is) (c.write_rest.ensures vs)

pub returns-in-Close : goal.returns-in-Close
returns-in-Close c =
    let ss : List Shape = (skeleton_of c.args.loaded.now).nodes in
    let names : List Bytes = (program_of c.args.loaded.now).names in
    let vs : List (Path × ℕ) = map unframed c.args.order.now in
    on_ok_weaker c.append.result
    (λ e. subst (λ (k : Task). Does names vs ss (task_text names vs ss k) c.args.work.now.items c.args.work.now.items c.args.text.now c.append.new.self)
    (sym c.in-Close.is) (does_text names vs ss (93 ∷ []) c.args.work.now.items c.args.text.now c.append.new.self e))
    c.append.ensures
