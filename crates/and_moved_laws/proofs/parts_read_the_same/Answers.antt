use Rattle.and_moved_laws.proofs.Standing
use Rattle.and_moved_laws.proofs.parts_read_the_same.Goals as goal

pub returns-clause-there : goal.returns-clause-there
returns-clause-there c = λ P at part whole r t m h s. Standing.stands_moved P at part whole m r t h s

pub returns-clause-here : goal.returns-clause-here
returns-clause-here c = λ P at part whole r u m h s. Standing.stands_back P at part whole m r u h s

pub returns-clause-sound : goal.returns-clause-sound
returns-clause-sound c = λ P at part whole m sound. Standing.sound_part P at part whole m sound

pub returns-clause-settled : goal.returns-clause-settled
returns-clause-settled c = λ P at part whole m sound settled. Standing.settled_part P at part whole m sound settled
