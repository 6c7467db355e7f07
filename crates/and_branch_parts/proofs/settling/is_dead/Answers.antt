use Rattle.and_branch_parts.proofs.settling.is_dead.Goals as goal

pub settle-requires-clause-written : goal.settle-requires-clause-written
settle-requires-clause-written g c = c.requires.written c.if-failed.false
