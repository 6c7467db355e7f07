use Rattle.and_command.proofs.MatchLemmas.{given_is, read_flag}
use Rattle.and_command.proofs.values.given_in.Goals as goal

pub returns : goal.returns
returns c = λ g values. given_is g _ _ _ _ _ _ (c.number_in.ensures g.limit values.limit) (c.number_in-2.ensures g.jobs values.jobs)
    (c.number_in-3.ensures g.teams values.teams) (c.number_in-4.ensures g.workers values.workers)
    (c.number_in-5.ensures g.number values.number)
    (read_flag g.stats _ _ c.get_flag.ensures.value c.get_flag.ensures.other values.stats)
