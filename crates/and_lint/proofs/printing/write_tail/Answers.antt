use Rattle.std.proofs.Common.{[], List}
use Rattle.std.proofs.lemmas.Result.{on_ok_weaker}
use Rattle.and_model.specs.Terms.{Term}
use Rattle.and_model.specs.Lines.{Bytes}
use Rattle.and_program.specs.Loaded.{program_of, skeleton_of}
use Rattle.and_program.specs.Skeletons.{Shape, node_term}
use Rattle.and_lint.proofs.Tasks.{does_end, tail_of_number, tail_of_variable, term_of_number, term_of_variable}
use Rattle.and_lint.proofs.printing.write_tail.Goals as goal

pub returns-in-Variable : goal.returns-in-Variable
returns-in-Variable c = λ vs.
    let ss : List Shape = (skeleton_of c.args.loaded.now).nodes in
    let names : List Bytes = (program_of c.args.loaded.now).names in
    let t : Term = node_term ss c.args.node.0 in
    on_ok_weaker c.write_end.result
    (λ e. does_end names vs ss c.args.node c.args.work.now.items c.write_end.new.work.items c.args.text.now c.write_end.new.text c.requires
    (tail_of_variable names vs ss t [] c.in-Variable.field-0
    (term_of_variable ss c.args.node.0 c.in-Variable.field-0 c.args.loaded.now.kept.falls c.requires c.in-Variable.ensures.shape)) e.0 e.1)
    c.write_end.ensures

pub returns-in-Number : goal.returns-in-Number
returns-in-Number c = λ vs.
    let ss : List Shape = (skeleton_of c.args.loaded.now).nodes in
    let names : List Bytes = (program_of c.args.loaded.now).names in
    let t : Term = node_term ss c.args.node.0 in
    on_ok_weaker c.write_end-in-Number.result
    (λ e. does_end names vs ss c.args.node c.args.work.now.items c.write_end-in-Number.new.work.items c.args.text.now c.write_end-in-Number.new.text c.requires
    (tail_of_number names vs ss t _ (term_of_number t _ c.in-Number.ensures.term)) e.0 e.1)
    c.write_end-in-Number.ensures

pub write_compound_tail-requires : goal.write_compound_tail-requires
write_compound_tail-requires c = record { there = c.requires; kind = c.in-Compound.ensures.term; count = c.in-Compound.ensures.count }

pub returns-in-Compound : goal.returns-in-Compound
returns-in-Compound c = c.write_compound_tail.ensures
