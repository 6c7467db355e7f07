use Rattle.and_program.specs.Loaded.{program_of}
use Rattle.and_code.specs.Written.{all_written}
use Rattle.and_code.proofs.Turns.{all_told}
use Rattle.and_code.proofs.telling.CodeSoFar.tell_on.Goals as goal

pub returns-clause-told : goal.returns-clause-told
returns-clause-told c =
    all_told (program_of c.args.loaded.now) (all_written c.args.reductions.now) _ c.tell.new.code c.len-self.result
    c.len-self.ensures c.in_ok-self.ensures.told
