use Rattle.std.proofs.Common.{drop}
use Rattle.and_first_argument.proofs.AdditionsLemmas.{Fills}
use Rattle.and_first_argument.proofs.first_arguments.switch_of.Given as goal

abbrev pub invariant-loop-addition : goal.invariant-loop-addition
invariant-loop-addition g l = Fills l.switch (drop l.addition-index l.additions) l.additions
