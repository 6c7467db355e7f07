use Rattle.std.proofs.Common.{ap, refl, sym, subst, ◌∙◌, ◌≡◌, ◌≢◌}
use Rattle.and_histories.specs.PlainTree.{publish, not_free, spent, last_serial}
use Rattle.and_tree.specs.Passes.{Makes}
use Rattle.and_tree.specs.Replies.{seen_of}
use Rattle.and_tree.specs.Sight.{mine_of}
use Rattle.and_tree.proofs.CellWords.{content_free}
use Rattle.and_tree.proofs.Publishing.{taken_so, published, published_pass}
use Rattle.and_tree.proofs.Telling.{pass_of, called_makes, called_pass}
use Rattle.and_tree.proofs.tree.Tree.publish.Goals as goal

pub invariant_of-pass : goal.invariant_of-pass
invariant_of-pass g c =
    let told = c.load_to_publish-found.ensures.told in
    let few = c.pass.invariant.1.few_teams in
    let is : told.content.serial ≡ last_serial = sym (c.serial_in.ensures.serial told.content _ few told.is_cell told.found_is)
    ∙ c.if-serial_in-eq-LAST_SERIAL.true in
    let so = told.if_spent is in (
      so.1,
      called_pass (publish (mine_of c.pass.inside.seat.me.0).team c.args.cell (g.B.Keyed.key_of c.args.branch)) spent _ _ so.0.held _ _ _ so.0.called
          c.pass.invariant.1 so.0.rests refl,
    )

pub returns-then-serial_in-eq-LAST_SERIAL-clause-spent : goal.returns-then-serial_in-eq-LAST_SERIAL-clause-spent
returns-then-serial_in-eq-LAST_SERIAL-clause-spent g c =
    let K = g.B.Keyed.key_of in
    let told = c.load_to_publish-found.ensures.told in
    let few = c.pass.invariant.1.few_teams in
    let is : told.content.serial ≡ last_serial = sym (c.serial_in.ensures.serial told.content _ few told.is_cell told.found_is)
    ∙ c.if-serial_in-eq-LAST_SERIAL.true in
    let so = told.if_spent is in
    λ back e.
    let same : c.args.branch ≡ back = cc in (
      sym same,
      called_makes (publish (mine_of c.pass.inside.seat.me.0).team c.args.cell (K c.args.branch)) _ spent _ _ so.0.held _ _ _ c.pass.view_is
          (ap (λ z. publish z.team c.args.cell (K c.args.branch)) c.pass.view_is)
          c.load_to_publish-found.ensures.same so.0.called,
    )

pub invariant_of-pass-then-content_in-ne-FREE : goal.invariant_of-pass-then-content_in-ne-FREE
invariant_of-pass-then-content_in-ne-FREE g c =
    let told = c.load_to_publish-found.ensures.told in
    let few = c.pass.invariant.1.few_teams in
    let ne : told.content.serial ≢ last_serial =
    λ e. c.if-serial_in-eq-LAST_SERIAL.false (c.serial_in.ensures.serial told.content _ few told.is_cell told.found_is ∙ e) in
    let other = taken_so told.content.content c.content_in.result (c.content_in.ensures.content told.content _ few told.is_cell told.found_is)
    c.if-content_in-ne-FREE.true in
    let so = told.if_not_free ne other in (
      so.1,
      called_pass (publish (mine_of c.pass.inside.seat.me.0).team c.args.cell (g.B.Keyed.key_of c.args.branch)) _ _ _ so.0.held _ _ _ so.0.called
          c.pass.invariant.1 so.0.rests refl,
    )

pub returns-then-content_in-ne-FREE-clause-not_free : goal.returns-then-content_in-ne-FREE-clause-not_free
returns-then-content_in-ne-FREE-clause-not_free g c =
    let K = g.B.Keyed.key_of in
    let told = c.load_to_publish-found.ensures.told in
    let few = c.pass.invariant.1.few_teams in
    let ne : told.content.serial ≢ last_serial =
    λ e. c.if-serial_in-eq-LAST_SERIAL.false (c.serial_in.ensures.serial told.content _ few told.is_cell told.found_is ∙ e) in
    let other = taken_so told.content.content c.content_in.result (c.content_in.ensures.content told.content _ few told.is_cell told.found_is)
    c.if-content_in-ne-FREE.true in
    let so = told.if_not_free ne other in
    λ back seen e.
    let same : c.args.branch ≡ back = cc in
    let seen_same : c.seen_in_word-seen.result ≡ seen = cc in
    let makes = called_makes (publish (mine_of c.pass.inside.seat.me.0).team c.args.cell (K c.args.branch))
    (publish c.args.pass.now.team c.args.cell (K c.args.branch)) _ _ _ so.0.held _ _ _ c.pass.view_is
    (ap (λ z. publish z.team c.args.cell (K c.args.branch)) c.pass.view_is) c.load_to_publish-found.ensures.same so.0.called in (
      sym same,
      subst (λ s. Makes (publish c.args.pass.now.team c.args.cell (K c.args.branch)) (not_free s) c.args.pass.now
          (pass_of c.load_to_publish-found.new.seat.table_id c.load_to_publish-found.new.seat.me.0))
          (sym (c.seen_in_word-seen.ensures told.content _ few told.is_cell told.found_is) ∙ ap seen_of seen_same) makes,
    )

pub invariant_of-pass-2 : goal.invariant_of-pass-2
invariant_of-pass-2 g c =
    let told = c.load_to_publish-found.ensures.told in
    let few = c.pass.invariant.1.few_teams in
    let ne : told.content.serial ≢ last_serial =
    λ e. c.if-serial_in-eq-LAST_SERIAL.false (c.serial_in.ensures.serial told.content _ few told.is_cell told.found_is ∙ e) in
    let is_free = content_free told.content.content (sym (c.content_in.ensures.content told.content _ few told.is_cell told.found_is)
    ∙ c.if-content_in-ne-FREE.false) in
    let so = told.if_free ne is_free in
    let put = c.put_in.ensures.told in (
      put.2,
      published_pass c.args.cell put.0 c.pass.inside.team told.content (g.B.Keyed.key_of c.args.branch) c.pass.inside.seat.me.0
          c.load_to_publish-found.new.seat.me.0 c.put_in.new.seat.me.0 _ so.0 put.1 c.pass.invariant.1,
    )

pub returns-clause-done : goal.returns-clause-done
returns-clause-done g c =
    let told = c.load_to_publish-found.ensures.told in
    let few = c.pass.invariant.1.few_teams in
    let ne : told.content.serial ≢ last_serial =
    λ e. c.if-serial_in-eq-LAST_SERIAL.false (c.serial_in.ensures.serial told.content _ few told.is_cell told.found_is ∙ e) in
    let is_free = content_free told.content.content (sym (c.content_in.ensures.content told.content _ few told.is_cell told.found_is)
    ∙ c.if-content_in-ne-FREE.false) in
    let so = told.if_free ne is_free in
    let put = c.put_in.ensures.told in
    λ e. published c.args.cell put.0 told.content (g.B.Keyed.key_of c.args.branch) c.pass.inside.seat.me.0 c.load_to_publish-found.new.seat.me.0
    c.put_in.new.seat.me.0 c.pass.inside.seat.table_id c.put_in.new.seat.table_id c.args.pass.now
    so.0 put.1 c.pass.view_is (c.put_in.ensures.same ∙ c.load_to_publish-found.ensures.same)
