use Rattle.and_model.specs.declared.reference.Ref.TheVariants.{Cell}
use Rattle.and_cells.proofs.Chains.{finds_reads}
use Rattle.and_shared_determinacy.proofs.Comparing.{follow_later, follow_pairs_later, follow_push}
use Rattle.and_shared_determinacy.proofs.MatchSteps.{won_on, later_on, cell_follows}
use Rattle.and_shared_determinacy.proofs.matching.set.Goals as goal

pub returns-in-Won-clause-pairs : goal.returns-in-Won-clause-pairs
returns-in-Won-clause-pairs g c = λ is.
    follow_pairs_later g.C.Cells.program (g.C.Cells.seen c.args.cells.now) (g.C.Cells.seen c.bind.new.self) c.args.pairs.now c.bind.ensures.keeps.knows
    c.bind.ensures.keeps.words c.requires.pairs

pub returns-in-Won-clause-on : goal.returns-in-Won-clause-on
returns-in-Won-clause-on g c = λ is.
    won_on g.C.Cells.program c.args.cell c.args.to (g.C.Cells.seen c.args.cells.now) (g.C.Cells.seen c.bind.new.self) c.args.pairs.now c.requires.to.0
    (c.bind.ensures.won c.in-Won.is)

pub returns-in-Already-clause-pairs : goal.returns-in-Already-clause-pairs
returns-in-Already-clause-pairs g c = λ is.
    let P = g.C.Cells.program in
    let old = g.C.Cells.seen c.args.cells.now in
    let new = g.C.Cells.seen c.bind.new.self in
    let keeps = c.bind.ensures.keeps in
    follow_push P new c.args.pairs.now c.put_off.new.pairs (Cell c.args.cell) c.args.to (cell_follows P old new c.args.cell c.requires.cell keeps.words)
    (follow_later P old new c.args.to keeps.knows keeps.words c.requires.to) (c.put_off.ensures.on is)
    (follow_pairs_later P old new c.args.pairs.now keeps.knows keeps.words c.requires.pairs)

pub returns-in-Already-clause-on : goal.returns-in-Already-clause-on
returns-in-Already-clause-on g c = λ is.
    let P = g.C.Cells.program in
    let old = g.C.Cells.seen c.args.cells.now in
    let new = g.C.Cells.seen c.bind.new.self in
    later_on P (Cell c.args.cell) c.args.to old new c.args.pairs.now c.put_off.new.pairs
    (finds_reads P c.args.cell c.in-Already.field-0 old new (c.bind.ensures.already c.in-Already.field-0 c.in-Already.is)) (c.put_off.ensures.on is)
