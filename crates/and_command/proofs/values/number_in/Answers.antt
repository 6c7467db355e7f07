use Rattle.std.specs.Str.Parse.{ParsesUnsigned, ExplainsUnsignedError, HasUnsignedDigitsIfOk}
use Rattle.and_command.proofs.MatchLemmas.{read_number}
use Rattle.and_command.proofs.values.number_in.Goals as goal

pub returns : goal.returns
returns c = λ o is.
    read_number _ (λ bs r. ParsesUnsigned 32 10 bs r × ExplainsUnsignedError 10 bs r × HasUnsignedDigitsIfOk bs r) (λ u x g. g.0)
    o c.get_one.result _ c.get_one.ensures.none c.get_one.ensures.value is
