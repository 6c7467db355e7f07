use Rattle.and_moved_laws.proofs.KeptFrames
use Rattle.and_moved_laws.proofs.kept_frames_are_part.Goals as goal

pub returns-clause-part : goal.returns-clause-part
returns-clause-part c = λ P row goals frames kept sound fill names are.
    KeptFrames.kept_are_part P row sound goals frames fill names kept are

pub returns-clause-moved : goal.returns-clause-moved
returns-clause-moved c = λ P row goals frames kept f sound fill names are h.
    KeptFrames.kept_frame_moves P row sound goals frames fill names kept are f h

pub returns-clause-fill : goal.returns-clause-fill
returns-clause-fill c = λ P row goals frames kept sound fill names are.
    KeptFrames.kept_fill P row sound goals frames fill names kept are

pub returns-clause-names : goal.returns-clause-names
returns-clause-names c = λ P row goals frames kept sound fill names are.
    KeptFrames.kept_names P row sound goals frames fill names kept are

pub returns-clause-query : goal.returns-clause-query
returns-clause-query c = λ P row goals frames kept f n sound fill names are there begins low.
    KeptFrames.query_stays P row sound goals frames fill names kept are f there begins n low

pub returns-clause-goals : goal.returns-clause-goals
returns-clause-goals c = λ P row goals frames kept g own sound fill names are h framed whole. (
  KeptFrames.goal_of_part P row sound goals frames fill names kept are own g h framed whole,
  KeptFrames.goal_back P row sound goals frames fill names kept are own g h framed whole,
  KeptFrames.goal_frame_there P row sound goals frames fill names kept are own g h framed whole,
)
