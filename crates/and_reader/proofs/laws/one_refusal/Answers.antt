use Rattle.and_reader.proofs.Judgement.{refused_once, read_not_refused}
use Rattle.and_reader.proofs.laws.one_refusal.Goals as goal

pub returns-clause-read : goal.returns-clause-read
returns-clause-read c = read_not_refused

pub returns-clause-refused : goal.returns-clause-refused
returns-clause-refused c = refused_once
