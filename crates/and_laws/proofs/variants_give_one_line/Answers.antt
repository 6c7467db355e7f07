use Rattle.and_laws.proofs.Printing
use Rattle.and_laws.proofs.variants_give_one_line.Goals as goal

pub returns : goal.returns
returns c = Printing.variants_line
