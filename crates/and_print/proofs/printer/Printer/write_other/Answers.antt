use Rattle.std.proofs.Common.{◌++◌, ◌∙◌, ap, subst, rules}
use Rattle.std.specs.Prelude.{FitsSigned}
use Rattle.std.specs.Int.{w64}
use Rattle.std.proofs.lemmas.Int.{ints, to_z-of_z}
use Rattle.std.proofs.lemmas.Result.{IfOk-weaker}
use Rattle.and_model.specs.Terms.{variables_of}
use Rattle.and_model.specs.Lines.{shown_name, shown}
use Rattle.and_cells.specs.Parts.{named}
use Rattle.and_print.specs.Roots.{RootMeans}
use Rattle.and_print.specs.Tasks.{tasks_left}
use Rattle.and_print.specs.declared.roots.Root.{Root}
use Rattle.and_print.proofs.Doing.{variable_writes, number_writes, written, named_begun}
use Rattle.and_print.proofs.printer.Printer.write_other.Goals as goal

pub write_arguments-requires-clause-means : goal.write_arguments-requires-clause-means
write_arguments-requires-clause-means g c =
    let (t, m) = c.requires.means in
    let (ts, is, means) = subst (λ (r : Root). RootMeans (named c.args.self.now.loaded.now) c.args.self.now.cells.now r t) c.in-Compound.is m in
    (ts, means)

pub returns-in_ok-write-in-Variable : goal.returns-in_ok-write-in-Variable
returns-in_ok-write-in-Variable g c = λ t m other.
    let P = named c.args.self.now.loaded.now in
    let row = c.args.self.now.cells.now in
    written P row (variables_of t) (λ vs. shown P.program.names vs t) c.args.names.now c.write.new.self c.args.out.now c.write.new.out
    (variable_writes P row t c.in-Variable.cell _ _ _ _ (subst (λ (r : Root). RootMeans P row r t) c.in-Variable.is m) c.in_ok-write-in-Variable.ensures)

pub returns-in_ok-write_number-in-Number : goal.returns-in_ok-write_number-in-Number
returns-in_ok-write_number-in-Number g c = λ t m other.
    let P = named c.args.self.now.loaded.now in
    let row = c.args.self.now.cells.now in
    let fits : FitsSigned w64 c.in-Number.number = search (rules, ints) in
    written P row (variables_of t) (λ vs. shown P.program.names vs t) c.args.names.now c.args.names.now c.args.out.now c.write_number.new.out
    (number_writes P row t c.in-Number.number c.args.names.now c.args.out.now c.write_number.new.out
    (subst (λ (r : Root). RootMeans P row r t) c.in-Number.is m) (rw to_z-of_z at c.in_ok-write_number-in-Number.ensures))

pub returns-in_ok-write_name-in-Compound : goal.returns-in_ok-write_name-in-Compound
returns-in_ok-write_name-in-Compound g c = λ t m other.
    let P = named c.args.self.now.loaded.now in
    let row = c.args.self.now.cells.now in
    let (ts, is, means) = subst (λ (r : Root). RootMeans P row r t) c.in-Compound.is m in
    let name = c.in_ok-write_name-in-Compound.ensures ∙ ap (λ n. c.args.out.now ++ shown_name n) c.name.ensures in
    IfOk-weaker c.write_arguments.result _ _
    (λ left b. named_begun P row t c.in-Compound.name.0 ts c.args.names.now c.write_arguments.new.names c.args.out.now c.write_name.new.text
    c.write_arguments.new.out (tasks_left left) is other name b)
    (c.write_arguments.ensures ts means)
