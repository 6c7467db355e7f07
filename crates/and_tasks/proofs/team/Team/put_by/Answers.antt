use Rattle.and_tasks.proofs.team.Team.put_by.Goals as goal

pub invariant_of-self : goal.invariant_of-self
invariant_of-self g c = record { number_is = c.args.self.now.number_is; left_shares = c.requires }
