use Rattle.and_cells.specs.Joined.{same, link, then}
use Rattle.and_unify.proofs.ClassLinks.{links_fall}
use Rattle.and_unify.proofs.classes.root.Goals as goal

pub loop-nearer-init : goal.loop-nearer-init
loop-nearer-init c = same c.args.from

pub loop-nearer-smaller : goal.loop-nearer-smaller
loop-nearer-smaller c = links_fall c.args.parents.now.entries c.loop-nearer.at c.in-Some.nearer c.requires c.in-Some.ensures.linked

pub loop-nearer-preserved : goal.loop-nearer-preserved
loop-nearer-preserved c =
    then c.args.from c.loop-nearer.at c.in-Some.nearer c.loop-nearer.invariant (link c.loop-nearer.at c.in-Some.nearer c.in-Some.ensures.linked)
