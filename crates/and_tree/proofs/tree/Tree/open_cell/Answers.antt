use Rattle.std.proofs.Common.{◌<◌, ◌≡◌, ◌≤◌, ℕ, ◌+◌, ◌*◌, ap, sym, subst, ◌∙◌, Contains}
use Rattle.and_histories.specs.PlainTree.{publish, last_serial}
use Rattle.and_tree.specs.Kept.{word_with}
use Rattle.and_tree.specs.Sight.{mine_of}
use Rattle.and_tree.specs.Told.{MayCall}
use Rattle.and_tree.proofs.Slots.{allows_open}
use Rattle.and_tree.proofs.Sizes.{cell_in, own_below}
use Rattle.and_tree.proofs.tree.Tree.open_cell.Goals as goal

pub store-requires : goal.store-requires
store-requires g c =
    let v = c.args.seat.now.me.0 in
    let K = g.B.Keyed.key_of in
    let S = g.B.Keyed.Stands in
    let can = c.requires.can in
    let before : ℕ = c.requires.works.0 in
    let has = c.requires.branch.2 in
    let may = subst (MayCall c.args.self.now.about.teams (mine_of v).hand) c.requires.branch.1 can.may in
    let about = sym (ap (λ z. z.about) c.self.view_is) in
    let below = subst (λ (b : _). c.args.cell < 8 * b.teams) about (own_below (mine_of v).team c.args.cell c.args.self.now.about.teams may.1 can.team_below) in
    let stands = subst (λ (b : _). S b.limit has.branch) about has.stands in
    let there = subst (Contains (mine_of v).hand) (sym has.key_is) may.0 in
    let low = subst (λ n. n ≤ last_serial) c.requires.works.2 c.requires.works.3 in
    let word : c.word_of-word.result ≡ word_with (before + 1) 1 = c.word_of-word.ensures ∙ ap (λ n. word_with n 1) c.requires.works.2 in
    let event : g.C.Calling.event ≡ publish (mine_of v).team c.args.cell (K has.branch) =
    c.requires.branch.1 ∙ ap (publish (mine_of v).team c.args.cell) (sym has.key_is) in (
      c.requires.same ∙ sym (ap (λ z. z.table) c.self.view_is),
      cell_in _ _ _ c.self.invariant c.args.cell below,
      rw (word, event, has.slots_are)
          (allows_open K S c.self.inside.table.shared.key _ _ c.args.cell before has.branch v can.alone.0 below c.requires.works.1 low there stands),
    )
