use Rattle.and_clauses.proofs.asking.set.Goals as goal

pub returns-in-Ok-clause-set : goal.returns-in-Ok-clause-set
returns-in-Ok-clause-set c = λ T w keep one.
    let made = c.in-Ok.ensures.set T w keep one in (made.0, c.in-Ok.field-0-1, made.1)
