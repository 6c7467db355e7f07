use Rattle.and_gathering.proofs.links.Links.place_of.Given as goal

abbrev pub decreases-loop-behind : goal.decreases-loop-behind
decreases-loop-behind l = l.behind
