use Rattle.std.proofs.Common.{sym, ◌∙◌}
use Rattle.std.proofs.lemmas.Result.{IfOk-weaker}
use Rattle.and_model.specs.Terms.{variables_of}
use Rattle.and_model.specs.Lines.{shown}
use Rattle.and_cells.specs.Parts.{named}
use Rattle.and_print.specs.Tasks.{tasks_left}
use Rattle.and_print.proofs.Chaining.{means_end}
use Rattle.and_print.proofs.Doing.{whole_left, other_root, begins_sooner}
use Rattle.and_print.proofs.printer.Printer.write_flat.Goals as goal

pub root-root-requires-clause-means : goal.root-root-requires-clause-means
root-root-requires-clause-means g c =
    let P = named c.args.self.now.loaded.now in
    let row = c.args.self.now.cells.now in
    let (t, m) = c.requires.means in
    (t, means_end g.N.Naming.program P row c.args.term c.end_of-end.result t c.requires.program c.end_of-end.ensures.stands c.end_of-end.ensures.in_range m)

pub returns-then-may_be_cell : goal.returns-then-may_be_cell
returns-then-may_be_cell g c = λ t m.
    let P = named c.args.self.now.loaded.now in
    let row = c.args.self.now.cells.now in
    let within = c.end_of-end.ensures.in_range in
    let end = means_end g.N.Naming.program P row c.args.term c.end_of-end.result t c.requires.program c.end_of-end.ensures.stands within m in
    whole_left P row c.end_of-end.result t c.args.names.now c.args.out.now end

pub write_other-requires-clause-means : goal.write_other-requires-clause-means
write_other-requires-clause-means g c =
    let P = named c.args.self.now.loaded.now in
    let row = c.args.self.now.cells.now in
    let (t, m) = c.requires.means in
    let within = c.end_of-end.ensures.in_range in
    let end = means_end g.N.Naming.program P row c.args.term c.end_of-end.result t c.requires.program c.end_of-end.ensures.stands within m in
    (t, c.root-root.ensures t end)

pub returns : goal.returns
returns g c = λ t m.
    let P = named c.args.self.now.loaded.now in
    let row = c.args.self.now.cells.now in
    let within = c.end_of-end.ensures.in_range in
    let end = means_end g.N.Naming.program P row c.args.term c.end_of-end.result t c.requires.program c.end_of-end.ensures.stands within m in
    let root = c.root-root.ensures t end in
    let other = other_root P row c.root-root.result t (sym c.may_be_cell.ensures ∙ c.if-may_be_cell.false) root in
    IfOk-weaker c.write_other.result _ _
    (λ left b. begins_sooner P row (variables_of t) (λ vs. shown P.program.names vs t) c.args.names.now c.write_other.new.names c.args.out.now
    c.write_other.new.out (tasks_left left) b)
    (c.write_other.ensures t root other)
