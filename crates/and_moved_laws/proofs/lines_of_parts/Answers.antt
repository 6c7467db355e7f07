use Rattle.and_moved_laws.proofs.Lining
use Rattle.and_moved_laws.proofs.lines_of_parts.Goals as goal

pub returns : goal.returns
returns c = λ P at part whole waiting r loaded m query goals. Lining.line_of_part P at part whole waiting r loaded m query goals
