use Rattle.std.proofs.Common.{ap, refl, sym, ◌∙◌}
use Rattle.and_histories.specs.PlainTree.{look, seen}
use Rattle.and_tree.specs.Sight.{mine_of}
use Rattle.and_tree.proofs.Telling.{can_call, call_makes, call_pass}
use Rattle.and_tree.proofs.tree.Tree.look.Goals as goal

pub look_at_cell-found-requires-clause-can : goal.look_at_cell-found-requires-clause-can
look_at_cell-found-requires-clause-can g c = (
  can_call _ _ _ _ (look (mine_of c.pass.inside.seat.me.0).team c.args.cell) c.pass.invariant.1 (ap (λ z. z.tree.about) c.pass.view_is
      ∙ ap (λ z. z.about) c.requires.tree) refl c.requires.cell,
  c.pass.invariant.1.at_rest_now,
)

pub look_at_cell-found-requires-clause-looks : goal.look_at_cell-found-requires-clause-looks
look_at_cell-found-requires-clause-looks g c = refl

pub invariant_of-pass : goal.invariant_of-pass
invariant_of-pass g c = (
  c.look_at_cell-found.ensures.told.1,
  call_pass (look (mine_of c.pass.inside.seat.me.0).team c.args.cell) _ _ c.look_at_cell-found.result _ _ _ c.look_at_cell-found.ensures.told.0
      c.pass.invariant.1 refl,
)

pub returns : goal.returns
returns g c =
    let told = c.look_at_cell-found.ensures.told.0 in
    let x = told.tells in
    call_makes (look (mine_of c.pass.inside.seat.me.0).team c.args.cell) _ _ _ _ c.look_at_cell-found.result _ _ _ c.pass.view_is
    (ap (λ z. look z.team c.args.cell) c.pass.view_is) c.look_at_cell-found.ensures.same told
    (x.3 ∙ ap seen (sym (c.seen_in_word.ensures x.0 _ c.pass.invariant.1.few_teams x.1 x.2)))
