use Rattle.and_moved_laws.proofs.Composing
use Rattle.and_moved_laws.proofs.parts_of_parts.Goals as goal

pub returns-clause-itself : goal.returns-clause-itself
returns-clause-itself c = λ P row. Composing.part_of_itself P row

pub returns-clause-twice : goal.returns-clause-twice
returns-clause-twice c = λ P inner outer part between whole i o. Composing.part_of_part P inner outer part between whole i o

pub returns-clause-behind : goal.returns-clause-behind
returns-clause-behind c = λ P at part whole by m. Composing.part_widened P at part whole by m
