use Rattle.std.proofs.Common.{arith}
use Rattle.and_laws.proofs.Splitting.{split_divides, split_one, split_code}
use Rattle.and_laws.proofs.Order.{below_weight}
use Rattle.and_laws.proofs.splits_divide_outcomes.Goals as goal

pub returns-clause-one_of_them : goal.returns-clause-one_of_them
returns-clause-one_of_them c = λ P ag. split_divides

pub returns-clause-only_one : goal.returns-clause-only_one
returns-clause-only_one c = λ P ag. split_one

pub returns-clause-begins : goal.returns-clause-begins
returns-clause-begins c = λ P ag. split_code

pub returns-clause-heavy : goal.returns-clause-heavy
returns-clause-heavy c = λ P limit t u b h. omega (arith, below_weight b)
