use Rattle.and_moved_laws.proofs.Settling
use Rattle.and_moved_laws.proofs.Solving
use Rattle.and_moved_laws.proofs.Extending
use Rattle.and_moved_laws.proofs.settling_of_parts.Goals as goal

pub returns-clause-settled : goal.returns-clause-settled
returns-clause-settled c = λ P at part whole new es m sound settled speaks x names.
    Settling.settling_of_parts P at part whole new es m sound settled speaks x names

pub returns-clause-behind : goal.returns-clause-behind
returns-clause-behind c = λ P at part whole new by es m sound settled short speaks x names.
    Settling.settling_behind P at part whole new by es m sound settled short speaks x names

pub returns-clause-unsolved : goal.returns-clause-unsolved
returns-clause-unsolved c = λ P at part whole es m no_solution so. Solving.unsolved_there P at part whole es m no_solution so

pub returns-clause-solvable : goal.returns-clause-solvable
returns-clause-solvable c = λ P at part whole es m sound settled speaks so.
    Extending.solvable_there P at part whole m sound settled es speaks so
