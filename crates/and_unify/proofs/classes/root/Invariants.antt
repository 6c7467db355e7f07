use Rattle.and_unify.specs.Classes.{InOneClass}
use Rattle.and_unify.proofs.ClassLinks.{links_on}
use Rattle.and_unify.proofs.classes.root.Given as goal

abbrev pub invariant-loop-nearer : goal.invariant-loop-nearer
invariant-loop-nearer l = InOneClass l.parents.entries l.fn.from l.at

abbrev pub decreases-loop-nearer : goal.decreases-loop-nearer
decreases-loop-nearer l = links_on l.parents.entries l.at
