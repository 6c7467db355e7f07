use Rattle.and_moved_laws.proofs.Frames
use Rattle.and_moved_laws.proofs.frames_of_parts.Goals as goal

pub returns-clause-together : goal.returns-clause-together
returns-clause-together c = λ P at frames row move low names. Frames.names_together P at frames move row low names

pub returns-clause-later : goal.returns-clause-later
returns-clause-later c = λ P at frames all new whole later move there m others names was.
    Frames.names_later P at frames move all new whole later there m others names was

pub returns-clause-behind : goal.returns-clause-behind
returns-clause-behind c = λ P at part whole weight m. Frames.behind_whole P at part whole weight m
