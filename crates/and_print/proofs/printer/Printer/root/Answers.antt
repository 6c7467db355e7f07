use Rattle.std.proofs.Common.{◌∙◌, ap, sym, subst, rules}
use Rattle.std.specs.Prelude.{FitsSigned}
use Rattle.std.specs.Int.{w64}
use Rattle.std.proofs.lemmas.Int.{ints, to_z-of_z}
use Rattle.and_model.specs.Terms.{number}
use Rattle.and_cells.specs.Parts.{named}
use Rattle.and_print.specs.Roots.{Means}
use Rattle.and_print.proofs.Chaining.{means_end, stands_half, stands_free, stands_number}
use Rattle.and_print.proofs.printer.Printer.root.Goals as goal

pub unreachable-requires-in-Half : goal.unreachable-requires-in-Half
unreachable-requires-in-Half g c =
    let P = named c.args.self.now.loaded.now in
    let row = c.args.self.now.cells.now in
    let (t, m) = c.requires.means in
    let end = means_end g.N.Naming.program P row c.args.term c.end_of.result t c.requires.program c.end_of.ensures.stands c.end_of.ensures.in_range m in
    stands_half P row c.in-Half.field-0 t (subst (λ q. Means P row q t) c.in-Half.is end).stands

pub returns-in-Cell : goal.returns-in-Cell
returns-in-Cell g c = λ t m.
    let P = named c.args.self.now.loaded.now in
    let row = c.args.self.now.cells.now in
    let end = means_end g.N.Naming.program P row c.args.term c.end_of.result t c.requires.program c.end_of.ensures.stands c.end_of.ensures.in_range m in
    stands_free P row c.in-Cell.cell t (c.end_of.ensures.end c.in-Cell.cell c.in-Cell.is) (subst (λ q. Means P row q t) c.in-Cell.is end).stands

pub returns-in-Node : goal.returns-in-Node
returns-in-Node g c = λ t m.
    let P = named c.args.self.now.loaded.now in
    let row = c.args.self.now.cells.now in
    let end = means_end g.N.Naming.program P row c.args.term c.end_of.result t c.requires.program c.end_of.ensures.stands c.end_of.ensures.in_range m in
    c.structure.ensures t (subst (λ q. Means P row q t) c.in-Node.is end)

pub returns-in-Number : goal.returns-in-Number
returns-in-Number g c = λ t m.
    let P = named c.args.self.now.loaded.now in
    let row = c.args.self.now.cells.now in
    let end = means_end g.N.Naming.program P row c.args.term c.end_of.result t c.requires.program c.end_of.ensures.stands c.end_of.ensures.in_range m in
    let fits : FitsSigned w64 c.held_number.result = search (rules, ints) in
    rw to_z-of_z (stands_number P row c.in-Number.pair t (subst (λ q. Means P row q t) c.in-Number.is end).stands ∙ ap number (sym c.held_number.ensures.value))
