use Rattle.std.proofs.Common.{◌∙◌, sym, subst, Contains}
use Rattle.std.proofs.lemmas.List.Elements.{Contains-push}
use Rattle.and_tree.proofs.Hands.{taken_hand}
use Rattle.and_team_rows.proofs.leaves.claimed.Goals as goal

pub returns-in-Taken-clause-tree : goal.returns-in-Taken-clause-tree
returns-in-Taken-clause-tree c = (taken_hand _ _ _ _ _ (c.claim.ensures.taken c.in-Taken.leaf c.in-Taken.is).1).1 ∙ c.requires.tree

pub returns-in-Taken-clause-team : goal.returns-in-Taken-clause-team
returns-in-Taken-clause-team c = (taken_hand _ _ _ _ _ (c.claim.ensures.taken c.in-Taken.leaf c.in-Taken.is).1).2

pub returns-in-Taken-clause-hand : goal.returns-in-Taken-clause-hand
returns-in-Taken-clause-hand c =
    subst (λ l. Contains l c.in-Taken.leaf.key) (sym (taken_hand _ _ _ _ _ (c.claim.ensures.taken c.in-Taken.leaf c.in-Taken.is).1).0)
    (Contains-push c.args.pass.now.hand c.in-Taken.leaf.key)
