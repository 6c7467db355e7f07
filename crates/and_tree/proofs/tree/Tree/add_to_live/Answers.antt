use Rattle.std.proofs.Common.{◌≡◌, length, ap, sym, subst, ◌∙◌}
use Rattle.and_tree.specs.Forked.{Fork}
use Rattle.and_tree.specs.Sight.{mine_of}
use Rattle.and_tree.specs.Told.{MayCall, added_by}
use Rattle.and_tree.proofs.Allowed.{allows_fork}
use Rattle.and_tree.proofs.Sizes.{live_in}
use Rattle.and_tree.proofs.tree.Tree.add_to_live.Goals as goal

pub fetch_add-requires : goal.fetch_add-requires
fetch_add-requires g c =
    let v = c.args.seat.now.me.0 in
    let can = c.requires.can.0 in
    let split : Fork = g.S.Forking.fork_of c.args.split.now in
    let may = subst (MayCall c.self.inside.table.shared.key.teams (mine_of v).hand) c.requires.forks
    (subst (λ n. MayCall n (mine_of v).hand g.C.Calling.event) (sym (ap (λ z. z.about.teams) c.self.view_is)) can.may) in
    let many : c.one_less-more.result ≡ added_by (length split.clauses) =
    c.one_less-more.ensures ∙ ap added_by c.count.ensures in (
      c.requires.same.0 ∙ sym (ap (λ z. z.table) c.self.view_is),
      live_in _ _ _ c.self.invariant,
      rw (c.requires.forks, many)
          (allows_fork g.B.Keyed.key_of g.B.Keyed.Stands c.self.inside.table.shared.key _ _ v c.args.seat.now.me.1 can.alone.0
          c.requires.same.1 c.requires.can.1
          split.key split.longer split.clauses may),
    )
