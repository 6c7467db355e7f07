use Rattle.std.proofs.Common.{◌++◌, ◌∙◌, refl, ap, subst, rules, arith}
use Rattle.std.specs.Prelude.{FitsSigned}
use Rattle.std.specs.Int.{w64}
use Rattle.std.proofs.lemmas.Int.{ints, to_z-of_z}
use Rattle.and_model.specs.Lines.{shown_name}
use Rattle.and_cells.specs.Parts.{named}
use Rattle.and_print.specs.Roots.{RootMeans}
use Rattle.and_print.specs.declared.roots.Root.{Root}
use Rattle.and_print.proofs.Chaining.{means_end}
use Rattle.and_print.proofs.Parting.{arguments_end}
use Rattle.and_print.proofs.Doing.{variable_writes, number_writes, name_writes}
use Rattle.and_print.proofs.printer.Printer.write_simple.Goals as goal

pub root-requires-clause-means : goal.root-requires-clause-means
root-requires-clause-means g c =
    let P = named c.args.self.now.loaded.now in
    let row = c.args.self.now.cells.now in
    let (t, m) = c.requires.means in
    (t, means_end g.N.Naming.program P row c.args.term c.end_of-end.result t c.requires.program c.end_of-end.ensures.stands c.end_of-end.ensures.in_range m)

pub returns-then-arguments-gt0 : goal.returns-then-arguments-gt0
returns-then-arguments-gt0 g c = λ t m.
    let P = named c.args.self.now.loaded.now in
    let row = c.args.self.now.cells.now in
    let within = c.end_of-end.ensures.in_range in
    let end = means_end g.N.Naming.program P row c.args.term c.end_of-end.result t c.requires.program c.end_of-end.ensures.stands within m in
    (end, refl, refl)

pub returns-in_ok-write-in-Variable : goal.returns-in_ok-write-in-Variable
returns-in_ok-write-in-Variable g c = λ t m.
    let P = named c.args.self.now.loaded.now in
    let row = c.args.self.now.cells.now in
    let within = c.end_of-end.ensures.in_range in
    let end = means_end g.N.Naming.program P row c.args.term c.end_of-end.result t c.requires.program c.end_of-end.ensures.stands within m in
    variable_writes P row t c.in-Variable.cell _ _ _ _ (subst (λ (r : Root). RootMeans P row r t) c.in-Variable.is (c.root.ensures t end))
    c.in_ok-write-in-Variable.ensures

pub returns-in_ok-write_number-in-Number : goal.returns-in_ok-write_number-in-Number
returns-in_ok-write_number-in-Number g c = λ t m.
    let P = named c.args.self.now.loaded.now in
    let row = c.args.self.now.cells.now in
    let within = c.end_of-end.ensures.in_range in
    let end = means_end g.N.Naming.program P row c.args.term c.end_of-end.result t c.requires.program c.end_of-end.ensures.stands within m in
    let fits : FitsSigned w64 c.in-Number.number = search (rules, ints) in
    number_writes P row t c.in-Number.number c.args.names.now c.args.out.now c.write_number.new.out
    (subst (λ (r : Root). RootMeans P row r t) c.in-Number.is (c.root.ensures t end)) (rw to_z-of_z at c.in_ok-write_number-in-Number.ensures)

pub returns-in_ok-write_name-in-Compound : goal.returns-in_ok-write_name-in-Compound
returns-in_ok-write_name-in-Compound g c = λ t m.
    let P = named c.args.self.now.loaded.now in
    let row = c.args.self.now.cells.now in
    let within = c.end_of-end.ensures.in_range in
    let end = means_end g.N.Naming.program P row c.args.term c.end_of-end.result t c.requires.program c.end_of-end.ensures.stands within m in
    let (ts, is, means) = subst (λ (r : Root). RootMeans P row r t) c.in-Compound.is (c.root.ensures t end) in
    let name = c.in_ok-write_name-in-Compound.ensures ∙ ap (λ n. c.args.out.now ++ shown_name n) c.name.ensures in
    let none = arguments_end P row c.in-Compound.arguments ts (let e = c.if-arguments-gt0.false in omega arith) means in
    name_writes P row t c.in-Compound.name.0 ts c.args.names.now c.args.out.now c.write_name.new.text is none name
