use Rattle.and_examples.proofs.Written
use Rattle.and_examples.proofs.written_lines.Goals as goal

pub returns-clause-limit_met : goal.returns-clause-limit_met
returns-clause-limit_met c = Written.met

pub returns-clause-complete : goal.returns-clause-complete
returns-clause-complete c = Written.all_found

pub returns-clause-nothing : goal.returns-clause-nothing
returns-clause-nothing c = Written.none_found

pub returns-clause-numbers : goal.returns-clause-numbers
returns-clause-numbers c = Written.numbers

pub returns-clause-counts : goal.returns-clause-counts
returns-clause-counts c = Written.counts
