use Rattle.std.proofs.Common.{◌++◌, ◌∙◌, sym}
use Rattle.std.proofs.lemmas.Result.{IfOk-weaker}
use Rattle.and_model.specs.Terms.{variables_of}
use Rattle.and_model.specs.Lines.{shown}
use Rattle.and_cells.specs.Parts.{named}
use Rattle.and_print.specs.Tasks.{in_hand, tasks_left}
use Rattle.and_print.proofs.Doing.{begins_does, list_closed, bar_begun}
use Rattle.and_print.proofs.printer.Printer.write_end.Goals as goal

pub is_nil-requires : goal.is_nil-requires
is_nil-requires g c = c.requires.means

pub write_other-requires-clause-means : goal.write_other-requires-clause-means
write_other-requires-clause-means g c = c.requires.means

pub returns-then-is_nil : goal.returns-then-is_nil
returns-then-is_nil g c = λ t m cell.
    list_closed (named c.args.self.now.loaded.now) c.args.self.now.cells.now t c.args.names.now c.args.out.now c.append.new.self c.args.work.now.items cell
    (sym (c.is_nil.ensures t m) ∙ c.if-is_nil.true) c.in_ok-append.ensures

pub returns : goal.returns
returns g c = λ t m cell.
    let P = named c.args.self.now.loaded.now in
    let row = c.args.self.now.cells.now in
    let begun = c.in_ok-left.ensures t m cell in
    IfOk-weaker c.hand_over.result _ _
    (λ hand e. bar_begun P row t c.args.names.now c.write_other.new.names c.args.out.now c.append-2.new.self c.write_other.new.out
    c.args.work.now.items c.push.new.self.items (c.hand_over.new.work.items ++ in_hand hand) cell (sym (c.is_nil.ensures t m) ∙ c.if-is_nil.false)
    c.in_ok-append-2.ensures c.in_ok-push.ensures.items
    (begins_does P row (variables_of t) (λ vs. shown P.program.names vs t) c.args.names.now c.write_other.new.names c.append-2.new.self
    c.write_other.new.out c.push.new.self.items (c.hand_over.new.work.items ++ in_hand hand) (tasks_left c.in_ok-left.left) begun e))
    c.hand_over.ensures
