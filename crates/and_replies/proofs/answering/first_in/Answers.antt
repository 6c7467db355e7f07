use Rattle.std.proofs.Common.{subst}
use Rattle.and_program.specs.Loaded.{program_of}
use Rattle.and_first.specs.First.{IsFirstOf}
use Rattle.and_replies.proofs.TopLemmas.{tells_first}
use Rattle.and_replies.proofs.answering.first_in.Goals as goal

pub returns : goal.returns
returns g c = λ program lifted.
    let first = c.in_ok-first in
    tells_first c.args.count c.args.limit program (program_of c.args.loaded.now) first.first _ lifted
    (subst (λ l. IsFirstOf (program_of l) c.args.limit c.args.count first.first) c.of.ensures first.ensures) c.status_of_first-status.ensures
