use Rattle.and_read_laws.proofs.Atoms.{of_atoms, has_names}
use Rattle.and_read_laws.proofs.read_programs_are_of_atoms.Goals as goal

pub returns-clause-atoms : goal.returns-clause-atoms
returns-clause-atoms c = of_atoms

pub returns-clause-written : goal.returns-clause-written
returns-clause-written c = has_names
