use Rattle.and_moved_laws.proofs.LaterRows
use Rattle.and_moved_laws.proofs.later_rows_of_fewer_frames.Goals as goal

pub returns : goal.returns
returns c = λ P rs frames part kept t chosen later whole more own k enough inside grew grows fill names.
    LaterRows.larger_row P own rs frames part kept t k chosen enough later whole more inside grew grows fill names
