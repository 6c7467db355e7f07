use Rattle.std.proofs.Common.{ap, refl, sym, subst, ◌∙◌, ◌≡◌}
use Rattle.and_histories.specs.PlainTree.{claim, moved}
use Rattle.and_tree.specs.Replies.{seen_of}
use Rattle.and_tree.specs.Sight.{About, mine_of}
use Rattle.and_tree.specs.Passes.{Takes}
use Rattle.and_tree.proofs.Publishing.{takes_both, taken_pass, same_branch}
use Rattle.and_tree.proofs.Telling.{pass_of, call_makes, call_pass}
use Rattle.and_tree.proofs.tree.Tree.claim.Goals as goal

pub invariant_of-pass : goal.invariant_of-pass
invariant_of-pass g c =
    let told = c.claim_in_vain-found.ensures.told in (
      told.1,
      call_pass (claim (mine_of c.pass.inside.seat.me.0).team c.args.cell c.args.serial) _ _ c.claim_in_vain-found.result _ _ _ told.0
          c.pass.invariant.1 refl,
    )

pub returns-then-serial-gt-LAST_SERIAL-clause-moved : goal.returns-then-serial-gt-LAST_SERIAL-clause-moved
returns-then-serial-gt-LAST_SERIAL-clause-moved g c =
    let told = c.claim_in_vain-found.ensures.told.0 in
    let x = told.tells in
    λ seen e.
    let same : c.seen_in_word.result ≡ seen = cc in
    call_makes (claim (mine_of c.pass.inside.seat.me.0).team c.args.cell c.args.serial) _ _ _ _ c.claim_in_vain-found.result _ _ _ c.pass.view_is
    (ap (λ z. claim z.team c.args.cell c.args.serial) c.pass.view_is)
    c.claim_in_vain-found.ensures.same told
    (x.3 ∙ ap moved (sym (c.seen_in_word.ensures x.0 _ c.pass.invariant.1.few_teams x.1 x.2) ∙ ap seen_of same))

pub invariant_of-pass-then-found-word_of : goal.invariant_of-pass-then-found-word_of
invariant_of-pass-then-found-word_of g c =
    let told = c.claim_cell-found.ensures.told.if_moved (λ e. c.if-found-word_of.true (e ∙ sym c.word_of.ensures)) in (
      told.1,
      call_pass (claim (mine_of c.pass.inside.seat.me.0).team c.args.cell c.args.serial) _ _ c.claim_cell-found.result _ _ _ told.0
          c.pass.invariant.1 refl,
    )

pub returns-then-found-word_of-clause-moved : goal.returns-then-found-word_of-clause-moved
returns-then-found-word_of-clause-moved g c =
    let told = (c.claim_cell-found.ensures.told.if_moved (λ e. c.if-found-word_of.true (e ∙ sym c.word_of.ensures))).0 in
    let x = told.tells in
    λ seen e.
    let same : c.seen_in_word-then-found-word_of.result ≡ seen = cc in
    call_makes (claim (mine_of c.pass.inside.seat.me.0).team c.args.cell c.args.serial) _ _ _ _ c.claim_cell-found.result _ _ _ c.pass.view_is
    (ap (λ z. claim z.team c.args.cell c.args.serial) c.pass.view_is)
    c.claim_cell-found.ensures.same told
    (x.3 ∙ ap moved (sym (c.seen_in_word-then-found-word_of.ensures x.0 _ c.pass.invariant.1.few_teams x.1 x.2) ∙ ap seen_of same))

pub invariant_of-pass-2 : goal.invariant_of-pass-2
invariant_of-pass-2 g c =
    let so = c.claim_cell-found.ensures.told.if_open (c.if-found-word_of.false ∙ c.word_of.ensures) in
    let out = c.take_out.ensures.told in (
      out.2,
      taken_pass c.args.cell c.args.serial out.0 c.pass.inside.team (g.B.Keyed.key_of so.branch) c.pass.inside.seat.me.0 c.claim_cell-found.new.seat.me.0
          c.take_out.new.seat.me.0 _ so.told out.1 c.pass.invariant.1,
    )

pub returns-clause-taken : goal.returns-clause-taken
returns-clause-taken g c =
    let K = g.B.Keyed.key_of in
    let so = c.claim_cell-found.ensures.told.if_open (c.if-found-word_of.false ∙ c.word_of.ensures) in
    let out = c.take_out.ensures.told in
    let about : c.pass.inside.seat.me.0.about ≡ c.args.self.now.about = ap (λ z. z.tree.about) c.pass.view_is ∙ ap (λ z. z.about) c.requires.tree in
    let takes = takes_both c.args.cell c.args.serial out.0 (K so.branch) c.pass.inside.seat.me.0 c.claim_cell-found.new.seat.me.0 c.take_out.new.seat.me.0
    c.pass.inside.seat.table_id c.claim_cell-found.new.seat.table_id
    c.take_out.new.seat.table_id c.args.pass.now so.told out.1 c.pass.view_is c.claim_cell-found.ensures.same c.take_out.ensures.same in
    λ branch e.
    let given : c.take_out.result ≡ branch = cc in
    let same : so.branch ≡ branch = same_branch c.args.cell so.branch c.take_out.result c.claim_cell-found.new.seat.me.1 so.slot c.take_out.ensures.branch
    ∙ given in (
      subst (λ (b : About). g.B.Keyed.Stands b.limit branch) about (subst (g.B.Keyed.Stands c.pass.inside.seat.me.0.about.limit) same so.stands),
      subst (λ b. Takes c.args.cell c.args.serial (K b) c.args.pass.now (pass_of c.take_out.new.seat.table_id c.take_out.new.seat.me.0)) same takes,
    )
