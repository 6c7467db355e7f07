use Rattle.and_examples.proofs.Values
use Rattle.and_examples.proofs.values_of_terms.Goals as goal

pub returns-clause-numbers : goal.returns-clause-numbers
returns-clause-numbers c = Values.numbers

pub returns-clause-sums : goal.returns-clause-sums
returns-clause-sums c = Values.sums

pub returns-clause-precedence : goal.returns-clause-precedence
returns-clause-precedence c = Values.precedence

pub returns-clause-quotients : goal.returns-clause-quotients
returns-clause-quotients c = Values.quotients

pub returns-clause-moduli : goal.returns-clause-moduli
returns-clause-moduli c = Values.moduli

pub returns-clause-remainders : goal.returns-clause-remainders
returns-clause-remainders c = Values.remainders

pub returns-clause-least_integer : goal.returns-clause-least_integer
returns-clause-least_integer c = Values.least_integer

pub returns-clause-negated : goal.returns-clause-negated
returns-clause-negated c = Values.negated

pub returns-clause-extremes : goal.returns-clause-extremes
returns-clause-extremes c = Values.extremes

pub returns-clause-by_zero : goal.returns-clause-by_zero
returns-clause-by_zero c = Values.by_zero

pub returns-clause-too_wide : goal.returns-clause-too_wide
returns-clause-too_wide c = Values.too_wide

pub returns-clause-no_value : goal.returns-clause-no_value
returns-clause-no_value c = Values.no_value
