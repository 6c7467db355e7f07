use Rattle.and_moved_laws.proofs.Reading
use Rattle.and_moved_laws.proofs.reads_of_parts.Goals as goal

pub returns-clause-there : goal.returns-clause-there
returns-clause-there c = λ P at part whole base t u m near r. Reading.read_there P at part whole m base t u near r

pub returns-clause-here : goal.returns-clause-here
returns-clause-here c = λ P at part whole base t u m sound settled near r.
    Reading.read_here P at part whole m base sound settled t u near r

pub returns-clause-same_ground : goal.returns-clause-same_ground
returns-clause-same_ground c = λ at t. Reading.moved_ground at t

pub returns-clause-none_ground : goal.returns-clause-none_ground
returns-clause-none_ground c = λ P at part whole kept m sound settled goals. (
  Reading.none_ground_there P at part whole m kept goals sound settled,
  Reading.none_ground_here P at part whole m kept goals,
)
