use Rattle.std.proofs.Common.{◌∙◌, sym, subst}
use Rattle.and_unify.specs.Classes.{Climbs}
use Rattle.and_unify.proofs.ClassLinks.{root_inserted, climbs_on}
use Rattle.and_unify.proofs.classes.link.Goals as goal

pub returns-clause-ok : goal.returns-clause-ok
returns-clause-ok c = c.in_ok-linked.ensures.entries ∙ root_inserted c.args.parents.now.entries c.args.child c.args.nearer c.requires.roots.0

pub returns-clause-climbs : goal.returns-clause-climbs
returns-clause-climbs c =
    let links = c.args.parents.now.entries in
    subst Climbs (sym (c.in_ok-linked.ensures.entries ∙ root_inserted links c.args.child c.args.nearer c.requires.roots.0))
    (climbs_on links c.args.child c.args.nearer c.requires.climbs c.requires.roots.1 c.requires.differ)
