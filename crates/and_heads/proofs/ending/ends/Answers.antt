use Rattle.and_heads.proofs.ending.ends.Goals as goal

pub onward_ends-requires-clause-in_range : goal.onward_ends-requires-clause-in_range
onward_ends-requires-clause-in_range g c = (c.beyond_cell.ensures.onward c.in-Onward.next c.in-Onward.is).in_range

pub returns-in-Onward : goal.returns-in-Onward
returns-in-Onward g c = λ is. (c.beyond_cell.ensures.onward c.in-Onward.next c.in-Onward.is).ends (c.onward_ends.ensures is)
