use Rattle.and_kept_table.proofs.kept.table_for.Goals as goal

pub turn_to-requires : goal.turn_to-requires
turn_to-requires c = (c.requires.0, c.in_ok-table.ensures c.requires.0 c.requires.1 c.requires.2, c.requires.2)

pub returns-clause-kept : goal.returns-clause-kept
returns-clause-kept c = λ g kept stands. c.in_ok-turn_to.ensures.kept g (c.in_ok-table.ensures g kept stands) stands
