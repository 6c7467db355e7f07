use Rattle.std.proofs.Common.{◌++◌}
use Rattle.std.proofs.lemmas.Result.{IfOk-weaker}
use Rattle.std.specs.Prelude.{Some}
use Rattle.and_model.specs.Terms.{variables_of}
use Rattle.and_model.specs.Lines.{shown}
use Rattle.and_cells.specs.Parts.{named}
use Rattle.and_print.specs.Tasks.{tail, in_hand, tasks_left}
use Rattle.and_print.proofs.Owing.{leaves_does}
use Rattle.and_print.proofs.Doing.{begins_does, cell_begun, cell_left}
use Rattle.and_print.proofs.printer.Printer.write_root.Goals as goal

pub write_other-requires-clause-means : goal.write_other-requires-clause-means
write_other-requires-clause-means g c = c.requires.means

pub returns-in_default : goal.returns-in_default
returns-in_default g c = λ t m.
    let P = named c.args.self.now.loaded.now in
    let row = c.args.self.now.cells.now in
    let begun = c.in_ok-left.ensures t m (c.in_default.ensures t m) in
    IfOk-weaker c.hand_over.result _ _
    (λ hand e. begins_does P row (variables_of t) (λ vs. shown P.program.names vs t) c.args.names.now c.write_other.new.names c.args.out.now
    c.write_other.new.out c.args.work.now.items (c.hand_over.new.work.items ++ in_hand hand) (tasks_left c.in_ok-left.left) begun e)
    c.hand_over.ensures

pub write_flat-requires-clause-means : goal.write_flat-requires-clause-means
write_flat-requires-clause-means g c =
    let (t, m) = c.requires.means in
    let i = c.in-Some.ensures t m in
    (i.pair.one, i.pair.left_means)

pub write_tail-requires-clause-means : goal.write_tail-requires-clause-means
write_tail-requires-clause-means g c =
    let (t, m) = c.requires.means in
    let i = c.in-Some.ensures t m in
    (i.pair.other, i.pair.right_means)

pub returns-in-Some-2 : goal.returns-in-Some-2
returns-in-Some-2 g c = λ t m.
    let P = named c.args.self.now.loaded.now in
    let row = c.args.self.now.cells.now in
    let i = c.in-Some.ensures t m in
    let told = c.in_ok-begun.ensures i.pair.one i.pair.left_means in
    let b = rw c.in-Some-2.is at told in
    IfOk-weaker c.hand_over-in-Some-2.result _ _
    (λ hand e. cell_begun P row c.in-Some.head c.in-Some.tail t i c.args.names.now c.write_flat.new.names c.args.out.now c.append.new.self c.write_flat.new.out
    (tasks_left (Some c.in-Some-2.begun)) c.args.work.now.items c.push.new.self.items (c.hand_over-in-Some-2.new.work.items ++ in_hand hand)
    c.in_ok-append.ensures c.in_ok-push.ensures.items e b)
    c.hand_over-in-Some-2.ensures

pub returns : goal.returns
returns g c = λ t m.
    let P = named c.args.self.now.loaded.now in
    let row = c.args.self.now.cells.now in
    let i = c.in-Some.ensures t m in
    let told = c.in_ok-begun.ensures i.pair.one i.pair.left_means in
    let b = rw c.in_default-2.is at told in
    let l = cell_left P row c.in-Some.head c.in-Some.tail t i c.args.names.now c.write_flat.new.names c.args.out.now c.append.new.self c.write_flat.new.out
    c.in_ok-append.ensures b in
    IfOk-weaker c.write_tail.result _ _
    (λ hand d. leaves_does P row (tail i.pair.other) (variables_of t) (λ vs. shown P.program.names vs t) c.args.names.now c.write_flat.new.names
    c.write_tail.new.names c.args.out.now c.write_flat.new.out c.write_tail.new.out c.args.work.now.items (c.write_tail.new.work.items ++ in_hand hand) l d)
    (c.write_tail.ensures i.pair.other i.pair.right_means)
