use Rattle.std.proofs.Common.{None, ap, reverse}
use Rattle.and_model.specs.declared.reference.Ref.TheVariants.{Node}
use Rattle.and_cells.specs.Parts.{named}
use Rattle.and_cells.proofs.Chains.{reads_nothing, reads_more, or_half}
use Rattle.and_arith.specs.Turns.{undone}
use Rattle.and_arith.proofs.Stepping.{after_ok, comes_under, pair_comes, in_range_under}
use Rattle.and_arith.proofs.Entering.{enters_itself, enters_set}
use Rattle.and_arith.proofs.walk.enter.Goals as goal

pub enter_set-requires-clause-in_range : goal.enter_set-requires-clause-in_range
enter_set-requires-clause-in_range g c = let set = c.follow.ensures.set c.in-Set.cell c.in-Set.to c.in-Set.is in set.2

pub enter_set-requires-clause-no_cell : goal.enter_set-requires-clause-no_cell
enter_set-requires-clause-no_cell g c = let set = c.follow.ensures.set c.in-Set.cell c.in-Set.to c.in-Set.is in set.4

pub enter_node-requires : goal.enter_node-requires
enter_node-requires g c =
    let words = (g.C.Cells.seen c.args.cells.now).words in (
      words,
      in_range_under g.C.Cells.program (named c.args.loaded.now) words c.args.part (Node c.in-Node.node c.in-Node.base) c.requires.program c.in-Node.is
          (or_half g.C.Cells.program words c.args.part c.requires.in_range),
    )

pub returns-in-Set-clause-reads : goal.returns-in-Set-clause-reads
returns-in-Set-clause-reads g c =
    reads_more (g.C.Cells.seen c.args.cells.now) (g.C.Cells.seen c.follow.new.cells) (g.C.Cells.seen c.enter_set.new.cells) c.follow.ensures.reads
    c.enter_set.ensures.reads

pub returns-in-Set-clause-again : goal.returns-in-Set-clause-again
returns-in-Set-clause-again g c = λ again fuel.
    let set = c.follow.ensures.set c.in-Set.cell c.in-Set.to c.in-Set.is in
    enters_set g.C.Cells.program c.args.part c.in-Set.to c.in-Cell.from c.in-Set.cell (g.C.Cells.seen c.args.cells.now) (g.C.Cells.seen c.follow.new.cells)
    (g.C.Cells.seen c.enter_set.new.cells)
    c.args.work.now c.enter_set.new.work fuel c.in-Cell.is c.follow.ensures.reads c.enter_set.ensures.reads set.0 set.1 set.2
    (after_ok c.enter_set.result c.after.result _ c.after.ensures.err again c.enter_set.ensures.ok)

pub returns-in-Node-clause-again : goal.returns-in-Node-clause-again
returns-in-Node-clause-again g c = λ again fuel.
    let s = g.C.Cells.seen c.args.cells.now in
    enters_itself g.C.Cells.program c.args.part s s c.args.work.now c.enter_node.new.work fuel (reads_nothing s) c.requires.in_range
    (after_ok c.enter_node.result c.after-in-Node.result _ c.after-in-Node.ensures.err again
    (comes_under c.enter_node.result g.C.Cells.program (named c.args.loaded.now) None c.args.part (Node c.in-Node.node c.in-Node.base) s
    (undone c.args.work.now) (undone c.enter_node.new.work) c.requires.program c.in-Node.is
    c.enter_node.ensures))

pub returns-in-Number-clause-again : goal.returns-in-Number-clause-again
returns-in-Number-clause-again g c = λ again fuel.
    let old = g.C.Cells.seen c.args.cells.now in
    let new = g.C.Cells.seen c.number-number.new.self in
    enters_itself g.C.Cells.program c.args.part old new c.args.work.now c.put.new.self fuel c.number-number.ensures.only_reads c.requires.in_range
    (after_ok c.put.result c.after-in-Number.result _ c.after-in-Number.ensures.err again
    (pair_comes c.put.result g.C.Cells.program None old new c.args.part c.in-Number.pair c.number-number.result (undone c.args.work.now)
    (undone c.put.new.self) c.in-Number.is (record { sfits = c.number-number.type_inv }) c.number-number.ensures.read
    c.put.ensures.values (ap (λ v. reverse v.items) c.put.ensures.tasks) c.put.ensures.taken))
