use Rattle.std.proofs.Common.{false, Ok}
use Rattle.and_reports.specs.declared.showing.Show.TheVariants.{Whole}
use Rattle.and_replies.proofs.TopLemmas.{was_run}
use Rattle.and_replies.proofs.parts.searched.Goals as goal

pub returns : goal.returns
returns g c = λ program lifted.
    let found = c.requires.finds c.args.loaded c.args.table c.args.limit (Ok c.in_ok-found.found) c.requires.table c.requires.limited c.in_ok-found.ensures in
    was_run (Whole false) c.args.limit program _ c.in_ok-found.found _ _ lifted found c.in_ok-text.ensures c.status_of-status.ensures
