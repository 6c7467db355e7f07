use Rattle.std.proofs.Common.{rules, ℤ, Some, FitsSigned, w64, w8, Fits, to_z, of_z, refl, ap, arith, reverse}
use Rattle.std.proofs.lemmas.Int.{ints}
use Rattle.and_program.specs.Loaded.{shape_at}
use Rattle.and_cells.specs.Parts.{named}
use Rattle.and_arith.specs.Turns.{undone, ends}
use Rattle.and_arith.proofs.Stepping.{on_both, literal_read, structure_shown, opened_comes}
use Rattle.and_arith.proofs.walk.enter_node.Goals as goal

pub returns-in-Number : goal.returns-in-Number
returns-in-Number c =
    let P = named c.args.loaded.now in
    let z : ℤ = c.in-Number.number in
    let fits : FitsSigned w64 z = search (rules, ints) in
    on_both c.put.result _ _ _
    (λ values other s. ends (Some (to_z w64 (of_z w64 z))) (literal_read P s c.args.node c.args.base z fits c.in-Number.ensures.shape)
    (ap (λ v. reverse v.items) c.put.ensures.tasks) values c.put.ensures.taken)
    c.put.ensures.values c.put.ensures.values

pub returns-in-Compound : goal.returns-in-Compound
returns-in-Compound c =
    let P = named c.args.loaded.now in
    let fits : Fits w8 c.in-Compound.count = search rules in
    opened_comes c.open.result P c.args.node c.args.base c.in-Compound.name c.in-Compound.count (undone c.args.work.now) (undone c.open.new.self)
    (structure_shown P c.args.node c.in-Compound.name c.in-Compound.count (shape_at P.skeleton c.args.node.0) refl (omega (arith, fits.fits))
    c.in-Compound.ensures.shape)
    c.open.ensures.tasks (ap (λ v. reverse v.items) c.open.ensures.values) c.open.ensures.taken
