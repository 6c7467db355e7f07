use Rattle.and_judging.proofs.sorting.open.Goals as goal

pub returns-clause-there : goal.returns-clause-there
returns-clause-there c = λ n all. c.in_ok-add_piece.ensures.there n tt all
