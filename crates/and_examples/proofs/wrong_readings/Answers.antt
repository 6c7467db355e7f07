use Rattle.and_examples.proofs.Readings
use Rattle.and_examples.proofs.wrong_readings.Goals as goal

pub returns-clause-clause_zero : goal.returns-clause-clause_zero
returns-clause-clause_zero c = Readings.clause_zero

pub returns-clause-past_the_end : goal.returns-clause-past_the_end
returns-clause-past_the_end c = Readings.past_the_end

pub returns-clause-lightest : goal.returns-clause-lightest
returns-clause-lightest c = Readings.lightest_listing

pub returns-clause-not_twice : goal.returns-clause-not_twice
returns-clause-not_twice c = Readings.not_twice

pub returns-clause-next_lightest : goal.returns-clause-next_lightest
returns-clause-next_lightest c = Readings.next_lightest_listing
