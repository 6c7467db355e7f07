use Rattle.and_forks.proofs.lines.Lines.into_walk.Goals as goal

pub returns : goal.returns
returns c = λ P limit ls text written. (ls, text, written)
