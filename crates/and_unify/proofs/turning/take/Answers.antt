use Rattle.std.proofs.Common.{◌∙◌}
use Rattle.and_unify.proofs.TurnPicks.{inserted_last}
use Rattle.and_unify.proofs.turning.take.Goals as goal

pub returns : goal.returns
returns c = c.in_ok-insert.ensures.keys ∙ inserted_last c.args.taken.now.keys c.args.place c.requires
