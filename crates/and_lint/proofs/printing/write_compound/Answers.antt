use Rattle.std.proofs.Common.{◌≡◌, ◌∙◌, ◌++◌, ◌∷◌, [], true, List, sym, subst, arith, refl}
use Rattle.std.proofs.lemmas.Result.{on_ok_weaker}
use Rattle.and_model.specs.Terms.{Term}
use Rattle.and_model.specs.Lines.{Bytes}
use Rattle.and_program.specs.Loaded.{program_of, skeleton_of}
use Rattle.and_program.specs.Skeletons.{Shape, node_term}
use Rattle.and_lint.specs.Printed.{Does, is_cell_by}
use Rattle.and_lint.specs.declared.printing.Task.TheVariants.{Close}
use Rattle.and_lint.proofs.Tasks.{structure_due, term_of_compound, two_in_cell, whole_cell}
use Rattle.and_lint.proofs.printing.write_compound.Goals as goal

pub write_cell-requires : goal.write_cell-requires
write_cell-requires c =
    let cell : is_cell_by c.args.name.0 c.args.count ≡ true = sym c.is_cell.ensures ∙ c.if-is_cell.true in
    let two = two_in_cell c.args.name.0 c.args.count cell in
    let long = c.requires.count in
    record { there = c.requires.there; count = omega arith }

pub returns-then-is_cell : goal.returns-then-is_cell
returns-then-is_cell c = λ vs.
    let ss : List Shape = (skeleton_of c.args.loaded.now).nodes in
    let names : List Bytes = (program_of c.args.loaded.now).names in
    let t : Term = node_term ss c.args.node.0 in
    let s = term_of_compound t c.args.name c.args.count c.requires.kind in
    on_ok_weaker c.write_cell.result
    (λ e. whole_cell names vs ss t c.args.work.now.items (c.args.work.now.items ++ Close ∷ []) c.write_cell.new.work.items c.args.text.now
    c.write_cell.new.text c.args.name.0 c.args.count s (sym c.is_cell.ensures ∙ c.if-is_cell.true) refl e.0 e.1)
    c.write_cell.ensures

pub returns : goal.returns
returns c = λ vs.
    let ss : List Shape = (skeleton_of c.args.loaded.now).nodes in
    let names : List Bytes = (program_of c.args.loaded.now).names in
    let t : Term = node_term ss c.args.node.0 in
    let s = term_of_compound t c.args.name c.args.count c.requires.kind in
    let due = structure_due names vs ss t c.args.name.0 c.args.count s (sym c.is_cell.ensures ∙ c.if-is_cell.false) in
    on_ok_weaker c.write_structure.result
    (λ d. subst (λ (x : Bytes). Does names vs ss x c.args.work.now.items c.write_structure.new.work.items c.args.text.now c.write_structure.new.text)
    (sym due) d)
    (c.write_structure.ensures vs)
