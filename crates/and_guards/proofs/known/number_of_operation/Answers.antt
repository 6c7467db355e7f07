use Rattle.std.proofs.Common.{rules, ◌≡◌, ℤ, w64, FitsSigned, refl, sym, ap, ◌∙◌}
use Rattle.std.proofs.lemmas.Int.{ints}
use Rattle.and_model.specs.Arithmetic.{of_two}
use Rattle.and_model.specs.declared.reference.Ref.TheVariants.{Node}
use Rattle.and_cells.specs.Parts.{named, part_at}
use Rattle.and_arith.specs.Operators.{name_of}
use Rattle.and_arith.proofs.Numbers.{as_read}
use Rattle.and_arith.proofs.Telling.{of_two_parts, parts_fit}
use Rattle.and_guards.proofs.KnownNumbers.{operation_known}
use Rattle.and_guards.proofs.known.number_of_operation.Goals as goal

pub number_of_part-requires-clause-in_range : goal.number_of_part-requires-clause-in_range
number_of_part-requires-clause-in_range g c =
    let P = g.N.Naming.program in
    let own = named c.args.loaded.now in
    let node = c.args.node in
    let base = c.args.base in
    let second = c.argument-second.result in
    let other = part_at own base second.0 in
    let two = of_two_parts P own node base c.in-Compound.name c.in-Compound.count c.resolve.result other c.requires.program c.in-Compound.ensures.shape
    c.if-count-ne2.false (c.resolve.ensures ∙ ap (part_at own base) c.argument-first.ensures.node)
    (ap (part_at own base) c.argument-second.ensures.node) in
    (parts_fit P c.args.cells.now (Node node base) node base c.in-Compound.name.0 c.resolve.result other c.requires.falls two refl c.requires.in_range).0.0

pub number_of_part-requires-clause-written : goal.number_of_part-requires-clause-written
number_of_part-requires-clause-written g c =
    let P = g.N.Naming.program in
    let own = named c.args.loaded.now in
    let node = c.args.node in
    let base = c.args.base in
    let second = c.argument-second.result in
    let other = part_at own base second.0 in
    let two = of_two_parts P own node base c.in-Compound.name c.in-Compound.count c.resolve.result other c.requires.program c.in-Compound.ensures.shape
    c.if-count-ne2.false (c.resolve.ensures ∙ ap (part_at own base) c.argument-first.ensures.node)
    (ap (part_at own base) c.argument-second.ensures.node) in
    (parts_fit P c.args.cells.now (Node node base) node base c.in-Compound.name.0 c.resolve.result other c.requires.falls two refl c.requires.in_range).0.1

pub number_of_part-requires-2-clause-in_range : goal.number_of_part-requires-2-clause-in_range
number_of_part-requires-2-clause-in_range g c =
    let P = g.N.Naming.program in
    let own = named c.args.loaded.now in
    let node = c.args.node in
    let base = c.args.base in
    let two = of_two_parts P own node base c.in-Compound.name c.in-Compound.count c.resolve.result c.resolve-2.result c.requires.program
    c.in-Compound.ensures.shape c.if-count-ne2.false (c.resolve.ensures ∙ ap (part_at own base) c.argument-first.ensures.node)
    (c.resolve-2.ensures ∙ ap (part_at own base) c.argument-second.ensures.node) in
    (parts_fit P c.args.cells.now (Node node base) node base c.in-Compound.name.0 c.resolve.result c.resolve-2.result c.requires.falls two refl
    c.requires.in_range).1.0

pub number_of_part-requires-2-clause-written : goal.number_of_part-requires-2-clause-written
number_of_part-requires-2-clause-written g c =
    let P = g.N.Naming.program in
    let own = named c.args.loaded.now in
    let node = c.args.node in
    let base = c.args.base in
    let two = of_two_parts P own node base c.in-Compound.name c.in-Compound.count c.resolve.result c.resolve-2.result c.requires.program
    c.in-Compound.ensures.shape c.if-count-ne2.false (c.resolve.ensures ∙ ap (part_at own base) c.argument-first.ensures.node)
    (c.resolve-2.ensures ∙ ap (part_at own base) c.argument-second.ensures.node) in
    (parts_fit P c.args.cells.now (Node node base) node base c.in-Compound.name.0 c.resolve.result c.resolve-2.result c.requires.falls two refl
    c.requires.in_range).1.1

pub returns : goal.returns
returns g c =
    let P = g.N.Naming.program in
    let own = named c.args.loaded.now in
    let node = c.args.node in
    let base = c.args.base in
    let two = of_two_parts P own node base c.in-Compound.name c.in-Compound.count c.resolve.result c.resolve-2.result c.requires.program
    c.in-Compound.ensures.shape c.if-count-ne2.false (c.resolve.ensures ∙ ap (part_at own base) c.argument-first.ensures.node)
    (c.resolve-2.ensures ∙ ap (part_at own base) c.argument-second.ensures.node) in
    let x : ℤ = c.in_ok-one.one in
    let y : ℤ = c.in_ok-other.other in
    let x_fits : FitsSigned w64 x = search (rules, ints) in
    let y_fits : FitsSigned w64 y = search (rules, ints) in
    let operator = c.in_ok-operator_of.field-0 in
    let called : c.in-Compound.name.0 ≡ name_of operator = ((c.operator_of.ensures operator).0 c.in_ok-operator_of.was).0 in
    operation_known P c.args.cells.now node base c.in-Compound.name.0 c.resolve.result c.resolve-2.result two x y c.in_ok-one.ensures c.in_ok-other.ensures
    c.apply.result (c.apply.ensures ∙ as_read (of_two (name_of operator)) x y x_fits y_fits ∙ ap (λ n. of_two n x y) (sym called))
