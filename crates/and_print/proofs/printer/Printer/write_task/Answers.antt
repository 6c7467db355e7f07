use Rattle.std.proofs.Common.{◌++◌, [], ◌∷◌, ap, refl, sym, subst}
use Rattle.std.specs.Prelude.{IfOk}
use Rattle.std.proofs.lemmas.Result.{IfOk-weaker}
use Rattle.and_model.specs.Terms.{variables_in}
use Rattle.and_model.specs.Lines.{shown_rest}
use Rattle.and_cells.specs.Parts.{named}
use Rattle.and_print.specs.Tasks.{Piece, TaskMeans, variables_there, piece_text, in_hand, tasks_left, Does}
use Rattle.and_print.specs.declared.tasks.Task.{Task}
use Rattle.and_print.proofs.Doing.{bytes_written, begins_does}
use Rattle.and_print.proofs.printer.Printer.write_task.Goals as goal

pub root-requires-clause-means : goal.root-requires-clause-means
root-requires-clause-means g c =
    let (p, means) = c.requires.means in
    let (t, is, m) = subst (λ (k : Task). TaskMeans (named c.args.self.now.loaded.now) c.args.self.now.cells.now k p) c.in-Whole.is means in
    (t, m)

pub write_root-requires-clause-means : goal.write_root-requires-clause-means
write_root-requires-clause-means g c =
    let (p, means) = c.requires.means in
    let (t, is, m) = subst (λ (k : Task). TaskMeans (named c.args.self.now.loaded.now) c.args.self.now.cells.now k p) c.in-Whole.is means in
    (t, c.root.ensures t m)

pub write_tail-requires-clause-means : goal.write_tail-requires-clause-means
write_tail-requires-clause-means g c =
    let (p, means) = c.requires.means in
    let (t, is, m) = subst (λ (k : Task). TaskMeans (named c.args.self.now.loaded.now) c.args.self.now.cells.now k p) c.in-Tail.is means in
    (t, m)

pub write_rest-requires-clause-means : goal.write_rest-requires-clause-means
write_rest-requires-clause-means g c =
    let (p, means) = c.requires.means in
    let (ts, is, m) = subst (λ (k : Task). TaskMeans (named c.args.self.now.loaded.now) c.args.self.now.cells.now k p) c.in-Rest.is means in
    (ts, m)

pub returns-in-Whole : goal.returns-in-Whole
returns-in-Whole g c = λ p means.
    let P = named c.args.self.now.loaded.now in
    let row = c.args.self.now.cells.now in
    let (t, is, m) = subst (λ (k : Task). TaskMeans P row k p) c.in-Whole.is means in
    subst (λ (q : Piece). IfOk c.write_root.result (λ hand. Does P row (variables_there q) (piece_text P.program.names q) c.args.names.now
    c.write_root.new.names c.args.out.now c.write_root.new.out c.args.work.now.items (c.write_root.new.work.items ++ in_hand hand)))
    (sym is) (c.write_root.ensures t (c.root.ensures t m))

pub returns-in-Tail : goal.returns-in-Tail
returns-in-Tail g c = λ p means.
    let P = named c.args.self.now.loaded.now in
    let row = c.args.self.now.cells.now in
    let (t, is, m) = subst (λ (k : Task). TaskMeans P row k p) c.in-Tail.is means in
    subst (λ (q : Piece). IfOk c.write_tail.result (λ hand. Does P row (variables_there q) (piece_text P.program.names q) c.args.names.now
    c.write_tail.new.names c.args.out.now c.write_tail.new.out c.args.work.now.items (c.write_tail.new.work.items ++ in_hand hand)))
    (sym is) (c.write_tail.ensures t m)

pub returns-in_ok-left-in-Rest : goal.returns-in_ok-left-in-Rest
returns-in_ok-left-in-Rest g c = λ p means.
    let P = named c.args.self.now.loaded.now in
    let row = c.args.self.now.cells.now in
    let (ts, is, m) = subst (λ (k : Task). TaskMeans P row k p) c.in-Rest.is means in
    let b = c.in_ok-left-in-Rest.ensures ts m in
    subst (λ (q : Piece). IfOk c.hand_over.result (λ hand. Does P row (variables_there q) (piece_text P.program.names q) c.args.names.now
    c.write_rest.new.names c.args.out.now c.write_rest.new.out c.args.work.now.items (c.hand_over.new.work.items ++ in_hand hand)))
    (sym is)
    (IfOk-weaker c.hand_over.result _ _
    (λ hand e. begins_does P row (variables_in ts) (λ vs. shown_rest P.program.names vs ts) c.args.names.now c.write_rest.new.names c.args.out.now
    c.write_rest.new.out c.args.work.now.items (c.hand_over.new.work.items ++ in_hand hand) (tasks_left c.in_ok-left-in-Rest.left) b e)
    c.hand_over.ensures)

pub returns-in_ok-append-in-Close : goal.returns-in_ok-append-in-Close
returns-in_ok-append-in-Close g c = λ p means.
    let P = named c.args.self.now.loaded.now in
    let row = c.args.self.now.cells.now in
    let is = subst (λ (k : Task). TaskMeans P row k p) c.in-Close.is means in
    begins_does P row (variables_there p) (piece_text P.program.names p) c.args.names.now c.args.names.now c.args.out.now c.append.new.self
    c.args.work.now.items (c.args.work.now.items ++ []) []
    (bytes_written P row (variables_there p) (piece_text P.program.names p) c.args.names.now c.args.out.now c.append.new.self (93 ∷ [])
    c.in_ok-append-in-Close.ensures (ap variables_there is) (λ vs. ap (λ (q : Piece). piece_text P.program.names q vs) is))
    refl
