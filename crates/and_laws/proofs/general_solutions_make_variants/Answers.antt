use Rattle.and_laws.proofs.Printing
use Rattle.and_laws.proofs.general_solutions_make_variants.Goals as goal

pub returns : goal.returns
returns c = Printing.general_variants
