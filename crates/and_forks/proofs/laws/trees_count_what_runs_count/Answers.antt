use Rattle.and_forks.proofs.Counted.{text_numbers}
use Rattle.and_forks.proofs.Agreed.{walks_agree, runs_agree}
use Rattle.and_forks.proofs.laws.trees_count_what_runs_count.Goals as goal

pub returns-clause-numbers : goal.returns-clause-numbers
returns-clause-numbers c = text_numbers

pub returns-clause-walks : goal.returns-clause-walks
returns-clause-walks c = walks_agree

pub returns-clause-runs : goal.returns-clause-runs
returns-clause-runs c = runs_agree
