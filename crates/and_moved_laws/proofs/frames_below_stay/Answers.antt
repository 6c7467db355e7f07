use Rattle.and_moved_laws.proofs.FramesBelow
use Rattle.and_moved_laws.proofs.frames_below_stay.Goals as goal

pub returns-clause-places : goal.returns-clause-places
returns-clause-places c = λ P row goals frames kept low p sound fill names enough below less inside.
    FramesBelow.place_stays P row sound goals frames fill names kept enough low below p less inside

pub returns-clause-again : goal.returns-clause-again
returns-clause-again c = λ P first row cells goals early frames kept first_sound filled named sound fill names enough below only.
    FramesBelow.again_below P first row cells early first_sound filled named sound goals frames fill names kept enough below only
