use Rattle.and_moved_laws.proofs.Closing
use Rattle.and_moved_laws.proofs.KeptFrames
use Rattle.and_moved_laws.proofs.one_list_of_kept_frames.Goals as goal

pub returns-clause-some : goal.returns-clause-some
returns-clause-some c = λ frames row goals rising. Closing.some_list frames row goals rising

pub returns-clause-one : goal.returns-clause-one
returns-clause-one c = λ frames row goals kept others x y. Closing.one_list frames row goals kept others x y

pub returns-clause-enough : goal.returns-clause-enough
returns-clause-enough c = λ frames row goals kept are. KeptFrames.kept_are_enough frames row goals kept are
