use Rattle.std.proofs.Common.{◌<◌, ◌≡◌, ℕ, ◌+◌, ◌*◌, eqb, ap, sym, subst, ◌∙◌}
use prog.Atomic.{either}
use Rattle.and_histories.specs.PlainTree.{claim}
use Rattle.and_tree.specs.Kept.{word_with}
use Rattle.and_tree.specs.Sight.{mine_of}
use Rattle.and_tree.specs.Told.{MayCall, ClaimTold}
use Rattle.and_tree.proofs.Slots.{allows_claim}
use Rattle.and_tree.proofs.Sizes.{cell_in, tells_less, claims_so}
use Rattle.and_tree.proofs.tree.Tree.claim_cell.Goals as goal

pub compare_exchange-requires : goal.compare_exchange-requires
compare_exchange-requires g c =
    let v = c.args.seat.now.me.0 in
    let K = g.B.Keyed.key_of in
    let S = g.B.Keyed.Stands in
    let can = c.requires.can.0 in
    let below = subst (λ n. c.args.cell < 8 * n) (sym (ap (λ z. z.about.teams) c.self.view_is))
    (subst (MayCall c.args.self.now.about.teams (mine_of v).hand) c.requires.claims can.may) in
    let word : c.word_of-taking.result ≡ word_with c.args.serial (2 + (mine_of v).team) =
    c.word_of-taking.ensures ∙ ap (λ t. word_with c.args.serial (2 + t)) c.requires.team.0 in (
      c.requires.same.0 ∙ sym (ap (λ z. z.table) c.self.view_is),
      cell_in _ _ _ c.self.invariant c.args.cell below,
      rw (
        c.word_of-open.ensures,
        word,
      ) (tells_less _ _ _ _ _ (λ n. either (eqb n (word_with c.args.serial 1)) (word_with c.args.serial (2 + (mine_of v).team)) n)
          (λ n me. ClaimTold K S c.args.cell c.args.serial v n me)
          (λ n me. (cell serial : ℕ) → g.C.Calling.event ≡ claim (mine_of v).team cell serial → ClaimTold K S cell serial v n me)
          (λ n me told cell serial e. claims_so (λ cell serial. ClaimTold K S cell serial v n me) g.C.Calling.event (mine_of v).team c.args.cell cell
          c.args.serial serial c.requires.claims e told)
          (allows_claim K S c.self.inside.table.shared.key _ _ c.args.cell c.args.serial v c.args.seat.now.me.1 can.alone.0 c.requires.same.1
          c.requires.can.1 below)),
    )
