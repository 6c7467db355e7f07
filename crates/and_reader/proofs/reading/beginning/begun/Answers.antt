use Rattle.and_reader.proofs.reading.beginning.begun.Goals as goal

pub beginning_by-requires-clause-few : goal.beginning_by-requires-clause-few
beginning_by-requires-clause-few c = c.requires.few

pub beginning_by-requires-clause-within : goal.beginning_by-requires-clause-within
beginning_by-requires-clause-within c = c.requires.within

pub beginning_by-requires-clause-before : goal.beginning_by-requires-clause-before
beginning_by-requires-clause-before c = c.goes_on.ensures.before c.if-goes_on.true

pub beginning_by-requires-clause-point : goal.beginning_by-requires-clause-point
beginning_by-requires-clause-point c = c.goes_on.ensures.point c.if-goes_on.true

pub beginning_by-requires-clause-whole : goal.beginning_by-requires-clause-whole
beginning_by-requires-clause-whole c = c.if-reader.false

pub returns-then-goes_on : goal.returns-then-goes_on
returns-then-goes_on c = c.beginning_by.ensures
