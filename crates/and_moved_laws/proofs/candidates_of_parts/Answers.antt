use Rattle.and_moved_laws.proofs.Judging
use Rattle.and_moved_laws.proofs.candidates_of_parts.Goals as goal

pub returns-clause-same : goal.returns-clause-same
returns-clause-same c = λ P at part whole g n m sound settled o.
    (Judging.candidate_there P at part whole m g o sound settled n, Judging.candidate_here P at part whole m g o.together n)

pub returns-clause-here : goal.returns-clause-here
returns-clause-here c = λ P at part whole g n m near k. Judging.candidate_here P at part whole m g near n k
