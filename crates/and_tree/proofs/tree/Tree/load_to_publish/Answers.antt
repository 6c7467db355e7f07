use Rattle.std.proofs.Common.{◌<◌, ◌≡◌, ℕ, ◌*◌, ap, sym, subst, ◌∙◌}
use Rattle.and_histories.specs.PlainTree.{Key, publish}
use Rattle.and_tree.specs.Sight.{mine_of}
use Rattle.and_tree.specs.Told.{MayCall, PublishTold}
use Rattle.and_tree.proofs.Slots.{allows_publish}
use Rattle.and_tree.proofs.Sizes.{cell_in, own_below, tells_less, publishes_so}
use Rattle.and_tree.proofs.tree.Tree.load_to_publish.Goals as goal

pub load-requires : goal.load-requires
load-requires g c =
    let v = c.args.seat.now.me.0 in
    let can = c.requires.can.0 in
    let key : Key = g.B.Keyed.key_of c.args.branch.now in
    let may = subst (MayCall c.args.self.now.about.teams (mine_of v).hand) c.requires.publishes can.may in
    let teams = sym (ap (λ z. z.about.teams) c.self.view_is) in
    let below = subst (λ n. c.args.cell < 8 * n) teams (own_below (mine_of v).team c.args.cell c.args.self.now.about.teams may.1 can.team_below) in (
      c.requires.same.0 ∙ sym (ap (λ z. z.table) c.self.view_is),
      cell_in _ _ _ c.self.invariant c.args.cell below,
      tells_less _ _ _ _ _ (λ n. n) (λ n me. PublishTold c.args.cell key v n me)
          (λ n me. (cell : ℕ) (other : Key) → g.C.Calling.event ≡ publish (mine_of v).team cell other → PublishTold cell other v n me)
          (λ n me told cell other e. publishes_so (λ cell other. PublishTold cell other v n me) g.C.Calling.event (mine_of v).team c.args.cell cell key other
          c.requires.publishes e told)
          (allows_publish g.B.Keyed.key_of g.B.Keyed.Stands c.self.inside.table.shared.key _ _ c.args.cell key v c.args.seat.now.me.1 can.alone.0
          c.requires.same.1 c.requires.can.1 may.1 below may.0),
    )
