use Rattle.std.proofs.Common.{None, ap, ◌∙◌, replicate, arith}
use Rattle.and_tree.proofs.Cells.{opened_places}
use Rattle.and_tree.proofs.places.Places.open.Goals as goal

pub returns-clause-ok : goal.returns-clause-ok
returns-clause-ok g c =
    opened_places g.B.Keyed.key_of c.args.limit c.in-Ok.hands.items c.in-Ok-empty_cells.cells.items c.args.teams c.args.root c.in-Ok.ensures
    (c.in-Ok-empty_cells.ensures ∙ ap (λ n. replicate n (record { serial = 0; branch = None })) (omega arith)) c.requires.root.1
