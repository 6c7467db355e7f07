use Rattle.and_cells.specs.Seen.{here}
use Rattle.and_unify.proofs.meeting.end_beside.Goals as goal

pub returns-then-may_be_set-clause-leads : goal.returns-then-may_be_set-clause-leads
returns-then-may_be_set-clause-leads g c = here c.args.from
