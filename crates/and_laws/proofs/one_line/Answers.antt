use Rattle.and_laws.proofs.Printing
use Rattle.and_laws.proofs.one_line.Goals as goal

pub returns : goal.returns
returns c = Printing.one_line
