use Rattle.and_unify.proofs.SettlingSeen.{ends_here}
use Rattle.and_unify.proofs.settling.is_seen_to_end.Goals as goal

pub returns-then-is_end-clause-ends : goal.returns-then-is_end-clause-ends
returns-then-is_end-clause-ends g c = λ is. ends_here g.N.Naming.program c.args.cells.now c.args.floor c.args.cell c.word-word.result c.word-word.ensures.value
    (c.is_end.ensures c.if-is_end.true)
