use Rattle.and_cells.specs.Parts.{named}
use Rattle.and_term_rows.proofs.script.tell.Given as goal

abbrev pub ghosts-told : goal.ghosts-told
ghosts-told a = record { program = named a.loaded.now }
