use Rattle.std.proofs.Common.{None, Ok}
use Rattle.and_replies.proofs.TopLemmas.{was_run}
use Rattle.and_replies.proofs.answering.found_in.Goals as goal

pub returns : goal.returns
returns g c = λ program lifted.
    let found = c.requires.finds c.args.loaded c.args.limit None (Ok c.in_ok-found.found) c.requires.limited c.in_ok-found.ensures in
    was_run c.args.show c.args.limit program _ c.in_ok-found.found _ _ lifted found c.in_ok-text.ensures c.status_of-status.ensures
