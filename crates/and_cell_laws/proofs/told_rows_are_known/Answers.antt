use Rattle.and_cell_laws.proofs.Told
use Rattle.and_cell_laws.proofs.told_rows_are_known.Goals as goal

pub returns : goal.returns
returns c = Told.told_rows_are_known
