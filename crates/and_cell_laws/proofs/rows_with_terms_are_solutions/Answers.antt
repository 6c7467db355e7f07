use Rattle.and_cell_laws.proofs.TermsOfRows
use Rattle.and_cell_laws.proofs.rows_with_terms_are_solutions.Goals as goal

pub returns : goal.returns
returns c = TermsOfRows.rows_with_terms_are_solutions
