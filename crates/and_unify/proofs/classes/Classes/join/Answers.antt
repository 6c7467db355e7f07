use Rattle.std.proofs.Common.{◌≡◌, refl, sym}
use Rattle.and_unify.proofs.ClassLinks.{same_is, joins_left, joins_right, one_root}
use Rattle.and_unify.proofs.classes.Classes.join.Goals as goal

pub returns-then-eq-clause-same : goal.returns-then-eq-clause-same
returns-then-eq-clause-same c = λ is.
    let same : c.root-left_root.result ≡ c.root-right_root.result = same_is _ _ (sym c.if-eq.ensures) in (
      refl,
      one_root c.args.self.now c.self.inside.parents.entries c.args.left c.args.right c.root-left_root.result c.root-right_root.result c.self.view_is
          c.root-left_root.ensures.joined c.root-right_root.ensures.joined same,
    )

pub returns-then-left_rank-right_rank-clause-joined : goal.returns-then-left_rank-right_rank-clause-joined
returns-then-left_rank-right_rank-clause-joined c = λ is.
    joins_right c.args.self.now c.self.inside.parents.entries c.link.new.parents.entries c.args.left c.args.right c.root-left_root.result
    c.root-right_root.result
    c.self.view_is c.root-left_root.ensures.joined c.root-right_root.ensures.joined c.in_ok-link.ensures.ok

pub returns-in_ok-insert-clause-joined : goal.returns-in_ok-insert-clause-joined
returns-in_ok-insert-clause-joined c = λ is.
    joins_left c.args.self.now c.self.inside.parents.entries c.link-2.new.parents.entries c.args.left c.args.right c.root-left_root.result
    c.root-right_root.result
    c.self.view_is c.root-left_root.ensures.joined c.root-right_root.ensures.joined c.in_ok-link-2.ensures.ok

pub returns-else-left_rank-right_rank-2-clause-joined : goal.returns-else-left_rank-right_rank-2-clause-joined
returns-else-left_rank-right_rank-2-clause-joined c = λ is.
    joins_left c.args.self.now c.self.inside.parents.entries c.link-2.new.parents.entries c.args.left c.args.right c.root-left_root.result
    c.root-right_root.result
    c.self.view_is c.root-left_root.ensures.joined c.root-right_root.ensures.joined c.in_ok-link-2.ensures.ok
