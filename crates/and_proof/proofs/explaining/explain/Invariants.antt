use Rattle.and_cells.specs.Parts.{named}
use Rattle.and_proof.proofs.explaining.explain.Given as goal

abbrev pub ghosts-explain_named : goal.ghosts-explain_named
ghosts-explain_named a = record { program = named a.loaded.now }
