use Rattle.and_arith.proofs.Telling.{told_value, told_waits}
use Rattle.and_arith.proofs.values.value_of.Goals as goal

pub returns-in-Number-clause-number : goal.returns-in-Number-clause-number
returns-in-Number-clause-number g c = λ z is.
    told_value g.N.Naming.program c.args.cells.now c.args.expression c.glance_at_leaf-told.result z is c.glance_at_leaf-told.ensures

pub returns-in-Waits-clause-waits : goal.returns-in-Waits-clause-waits
returns-in-Waits-clause-waits g c = λ cell is.
    told_waits g.N.Naming.program c.args.cells.now c.args.expression c.glance_at_leaf-told.result cell is c.glance_at_leaf-told.ensures
