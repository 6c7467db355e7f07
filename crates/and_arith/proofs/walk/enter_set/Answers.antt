use Rattle.std.proofs.Common.{Some, None, refl, ap, reverse}
use Rattle.and_model.specs.declared.reference.Ref.TheVariants.{Node, Half}
use Rattle.and_cells.specs.Parts.{named}
use Rattle.and_arith.specs.Turns.{of_half, undone}
use Rattle.and_arith.proofs.Stepping.{end_comes, comes_under, pair_comes, in_range_under}
use Rattle.and_arith.proofs.walk.enter_set.Goals as goal

pub enter_term-requires : goal.enter_term-requires
enter_term-requires g c = (
  (g.C.Cells.seen c.args.cells.now).words,
  in_range_under g.C.Cells.program (named c.args.loaded.now) _ c.args.to (Node c.in-Node.node c.in-Node.base) c.requires.program c.in-Node.is
      c.requires.in_range,
)

pub returns-in-Node-clause-ok : goal.returns-in-Node-clause-ok
returns-in-Node-clause-ok g c =
    comes_under c.enter_term.result g.C.Cells.program (named c.args.loaded.now) (Some c.args.cell) c.args.to (Node c.in-Node.node c.in-Node.base)
    (g.C.Cells.seen c.args.cells.now) _ _ c.requires.program c.in-Node.is
    c.enter_term.ensures

pub returns-in-Number-clause-ok : goal.returns-in-Number-clause-ok
returns-in-Number-clause-ok g c =
    pair_comes c.put.result g.C.Cells.program (Some c.args.cell) (g.C.Cells.seen c.args.cells.now) (g.C.Cells.seen c.number-number.new.self) c.args.to
    c.in-Number.pair c.number-number.result
    (undone c.args.work.now) (undone c.put.new.self) c.in-Number.is (record { sfits = c.number-number.type_inv }) c.number-number.ensures.read
    c.put.ensures.values (ap (λ v. reverse v.items) c.put.ensures.tasks) c.put.ensures.taken

pub returns-in-Half-clause-ok : goal.returns-in-Half-clause-ok
returns-in-Half-clause-ok g c =
    end_comes c.put-in-Half.result g.C.Cells.program (Some c.args.cell) (g.C.Cells.seen c.args.cells.now) c.args.to (Half c.in-Half.field-0) None None
    (undone c.args.work.now) (undone c.put-in-Half.new.self)
    c.in-Half.is refl (of_half c.in-Half.field-0) c.put-in-Half.ensures.values (ap (λ v. reverse v.items) c.put-in-Half.ensures.tasks)
    c.put-in-Half.ensures.taken
