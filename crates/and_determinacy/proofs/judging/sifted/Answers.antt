use Rattle.and_determinacy.proofs.judging.sifted.Goals as goal

pub returns : goal.returns
returns g c =
    c.sift.ensures g.N.Naming.program c.args.cells.now c.args.goal.base
    (c.requires.table.calls c.args.goal.clause.0 c.args.goal.item c.args.node.0 c.requires.node.there) c.requires.look c.requires.served
