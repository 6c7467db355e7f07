use Rattle.std.proofs.Common.{drop}
use Rattle.and_first_argument.proofs.AdditionsLemmas.{Fills}
use Rattle.and_first_argument.proofs.first_arguments.index_of.Given as goal

abbrev pub invariant-loop-addition : goal.invariant-loop-addition
invariant-loop-addition l = Fills l.index (drop l.addition-index l.additions) l.additions
