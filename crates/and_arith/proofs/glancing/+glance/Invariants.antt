use Rattle.and_arith.proofs.glancing.+glance.Given as goal

abbrev pub decreases-glance : goal.decreases-glance
decreases-glance g l = l.levels
