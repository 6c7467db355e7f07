use Rattle.and_laws.proofs.Agreement.{below_agrees, agrees_below, same_paths, query_apart}
use Rattle.and_laws.proofs.agreement_by_paths.Goals as goal

pub returns-clause-below : goal.returns-clause-below
returns-clause-below c = λ P t u. (below_agrees, agrees_below u t (query_apart P))

pub returns-clause-same : goal.returns-clause-same
returns-clause-same c = λ P t u same. same_paths t u (query_apart P) (λ q d. (same q d).0) (λ q d. (same q d).1)
