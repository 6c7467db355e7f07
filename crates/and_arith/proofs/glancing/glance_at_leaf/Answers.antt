use Rattle.and_arith.proofs.Telling.{chain_told}
use Rattle.and_arith.proofs.glancing.glance_at_leaf.Goals as goal

pub returns : goal.returns
returns g c =
    chain_told g.N.Naming.program c.args.cells.now c.args.leaf c.end_of.result c.told_at.result c.end_of.ensures.leads c.told_at.ensures
