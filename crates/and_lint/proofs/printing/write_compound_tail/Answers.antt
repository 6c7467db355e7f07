use Rattle.std.proofs.Common.{◌≡◌, ◌∙◌, true, false, List, sym, arith}
use Rattle.std.proofs.lemmas.Result.{on_ok_weaker}
use Rattle.and_model.specs.Terms.{Term}
use Rattle.and_model.specs.Lines.{Bytes}
use Rattle.and_program.specs.Loaded.{program_of, skeleton_of}
use Rattle.and_program.specs.Skeletons.{Shape, node_term}
use Rattle.and_lint.specs.Printed.{is_cell_by}
use Rattle.and_model.specs.declared.builtins.TheConstants.{NIL}
use Rattle.std.proofs.Common.{eqb}
use Rattle.std.proofs.lemmas.Bool.{and_parts, eqb-true, both_ways, and_from, eq-eqb}
use Rattle.and_lint.specs.Printed.{is_nil_by}
use Rattle.and_lint.proofs.Tasks.{does_end, tail_cell, tail_due, tail_nil, term_of_compound, two_in_cell}
use Rattle.and_lint.proofs.printing.write_compound_tail.Goals as goal

pub write_next_cell-requires : goal.write_next_cell-requires
write_next_cell-requires c =
    let cell : is_cell_by c.args.name.0 c.args.count ≡ true = sym c.is_cell.ensures ∙ c.if-is_cell.true in
    let two = two_in_cell c.args.name.0 c.args.count cell in
    let long = c.requires.count in
    record { there = c.requires.there; count = omega arith }

pub returns-then-is_cell : goal.returns-then-is_cell
returns-then-is_cell c = λ vs.
    let ss : List Shape = (skeleton_of c.args.loaded.now).nodes in
    let names : List Bytes = (program_of c.args.loaded.now).names in
    let t : Term = node_term ss c.args.node.0 in
    let s = term_of_compound t c.args.name c.args.count c.requires.kind in
    on_ok_weaker c.write_next_cell.result
    (λ e. tail_cell names vs ss t c.args.work.now.items c.write_next_cell.new.work.items c.args.text.now c.write_next_cell.new.text
    c.args.name.0 c.args.count s (sym c.is_cell.ensures ∙ c.if-is_cell.true) e.0 e.1)
    c.write_next_cell.ensures

pub returns-then-is_nil : goal.returns-then-is_nil
returns-then-is_nil c = λ vs.
    let ss : List Shape = (skeleton_of c.args.loaded.now).nodes in
    let names : List Bytes = (program_of c.args.loaded.now).names in
    let t : Term = node_term ss c.args.node.0 in
    let s = term_of_compound t c.args.name c.args.count c.requires.kind in
    let both = and_parts (eqb c.args.name.0 NIL) (eqb c.args.count 0) (sym c.is_nil.ensures ∙ c.if-is_nil.true) in
    tail_nil names vs ss t c.args.name.0 c.args.count c.args.work.now.items c.args.text.now s (sym c.is_cell.ensures ∙ c.if-is_cell.false)
    (eqb-true c.args.name.0 NIL both.0) (eqb-true c.args.count 0 both.1)

pub returns : goal.returns
returns c = λ vs.
    let ss : List Shape = (skeleton_of c.args.loaded.now).nodes in
    let names : List Bytes = (program_of c.args.loaded.now).names in
    let t : Term = node_term ss c.args.node.0 in
    let s = term_of_compound t c.args.name c.args.count c.requires.kind in
    let no_nil : is_nil_by c.args.name.0 c.args.count ≡ false = sym c.is_nil.ensures ∙ c.if-is_nil.false in
    on_ok_weaker c.write_end.result
    (λ e. does_end names vs ss c.args.node c.args.work.now.items c.write_end.new.work.items c.args.text.now c.write_end.new.text c.requires.there
    (tail_due names vs ss t c.args.name.0 c.args.count s (sym c.is_cell.ensures ∙ c.if-is_cell.false)
    (λ x y. both_ways (is_nil_by c.args.name.0 c.args.count) no_nil
    (and_from (eqb c.args.name.0 NIL) (eqb c.args.count 0) (eq-eqb c.args.name.0 NIL x) (eq-eqb c.args.count 0 y)))) e.0 e.1)
    c.write_end.ensures
