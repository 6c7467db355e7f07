use Rattle.and_cells.specs.Parts.{named}
use Rattle.and_term_rows.proofs.races.store_race.Given as goal

abbrev pub ghosts-raced : goal.ghosts-raced
ghosts-raced g a = record { program = named a.loaded.now }
