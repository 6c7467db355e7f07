use Rattle.std.proofs.Common.{◌∙◌, ◌++◌, ℕ, List, map, ap, sym}
use Rattle.std.proofs.Common.{rules}
use Rattle.std.proofs.lemmas.Result.{on_ok_weaker}
use Rattle.and_model.specs.Terms.{Path, Term}
use Rattle.and_model.specs.Lines.{Bytes, shown}
use Rattle.and_program.specs.Loaded.{program_of, skeleton_of}
use Rattle.and_program.specs.Skeletons.{Shape, node_term}
use Rattle.and_lint.specs.Kept.{unframed}
use Rattle.std.specs.Prelude.{FitsSigned}
use Rattle.std.specs.Int.{w64}
use Rattle.std.proofs.lemmas.Int.{ints, to_z-of_z}
use Rattle.and_lint.proofs.Tasks.{does_text, term_of_number, term_of_variable}
use Rattle.and_lint.proofs.printing.write_whole.Goals as goal

pub returns-in-Variable : goal.returns-in-Variable
returns-in-Variable c =
    let ss : List Shape = (skeleton_of c.args.loaded.now).nodes in
    let names : List Bytes = (program_of c.args.loaded.now).names in
    let t : Term = node_term ss c.args.node.0 in
    let vs : List (Path × ℕ) = map unframed c.args.order.now in
    let is = term_of_variable ss c.args.node.0 c.in-Variable.number c.args.loaded.now.kept.falls c.requires c.in-Variable.ensures.shape in
    on_ok_weaker c.write_variable.result
    (λ e. does_text names vs ss (shown names vs t) c.args.work.now.items c.args.text.now c.write_variable.new.text
    (e ∙ ap (λ (u : Term). c.args.text.now ++ shown names vs u) (sym is)))
    c.write_variable.ensures

pub returns-in-Number : goal.returns-in-Number
returns-in-Number c =
    let ss : List Shape = (skeleton_of c.args.loaded.now).nodes in
    let names : List Bytes = (program_of c.args.loaded.now).names in
    let t : Term = node_term ss c.args.node.0 in
    let vs : List (Path × ℕ) = map unframed c.args.order.now in
    let fits : FitsSigned w64 c.in-Number.value = search (rules, ints) in
    let is = term_of_number t c.in-Number.value c.in-Number.ensures.term in
    on_ok_weaker c.write_number.result
    (λ e. does_text names vs ss (shown names vs t) c.args.work.now.items c.args.text.now c.write_number.new.text
    (e ∙ ap (λ (u : Term). c.args.text.now ++ shown names vs u) (sym is)))
    (rw to_z-of_z at c.write_number.ensures)

pub write_compound-requires : goal.write_compound-requires
write_compound-requires c = record { there = c.requires; kind = c.in-Compound.ensures.term; count = c.in-Compound.ensures.count }

pub returns-in-Compound : goal.returns-in-Compound
returns-in-Compound c = c.write_compound.ensures (map unframed c.args.order.now)
