use Rattle.and_reader.proofs.Judgement.{read_once}
use Rattle.and_reader.proofs.laws.one_program.Goals as goal

pub returns : goal.returns
returns c = read_once
