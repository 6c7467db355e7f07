use Rattle.and_cells.specs.Parts.{named}
use Rattle.and_visit.proofs.search.Given as goal

abbrev pub ghosts-search_named : goal.ghosts-search_named
ghosts-search_named g a = record { program = named a.loaded.now }
