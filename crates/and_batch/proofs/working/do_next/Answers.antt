use Rattle.std.proofs.Common.{◌∙◌}
use Rattle.and_batch.proofs.working.do_next.Goals as goal

pub returns-in-Ok-clause-noted : goal.returns-in-Ok-clause-noted
returns-in-Ok-clause-noted g c =
    let run = c.in_ok-done.ensures in (c.in_ok-done.done, c.in-Ok.ensures.items, run.number ∙ c.new.ensures, run.due)
