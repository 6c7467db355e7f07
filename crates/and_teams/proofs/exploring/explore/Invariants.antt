use Rattle.and_cells.specs.Parts.{named}
use Rattle.and_teams.proofs.exploring.explore.Given as goal

abbrev pub ghosts-explore_named : goal.ghosts-explore_named
ghosts-explore_named g a = record { program = named a.loaded.now }
