use Rattle.and_laws.proofs.Exploring.{explored_entries, found_once}
use Rattle.and_model.specs.Trees.{query_agenda, blank}
use Rattle.and_laws.proofs.exploring_suffices.Goals as goal

pub returns-clause-entries : goal.returns-clause-entries
returns-clause-entries c = explored_entries

pub returns-clause-once : goal.returns-clause-once
returns-clause-once c = λ P limit found x. found_once P limit (blank (query_agenda P)) found x
