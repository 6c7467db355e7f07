use Rattle.std.proofs.Common.{ap, refl, sym, subst, ◌≡◌, ◌∙◌, Contains}
use Rattle.std.specs.Prelude.{nat_eq}
use Rattle.std.proofs.lemmas.Bool.Decides.{Decides-eqb}
use Rattle.and_histories.specs.PlainTree.{end, last}
use Rattle.and_tree.specs.Counted.{ending_of, with_last}
use Rattle.and_tree.specs.Replies.{is_last}
use Rattle.and_tree.specs.Sight.{mine_of}
use Rattle.and_tree.proofs.Going.{differs}
use Rattle.and_tree.proofs.Telling.{can_call, call_makes, call_pass}
use Rattle.and_tree.proofs.tree.Tree.end.Goals as goal
use Rattle.and_tree.proofs.tree.Tree.end.Goals.{then-found-eq1, else-found-eq1}

pub take_from_live-found-requires-clause-can : goal.take_from_live-found-requires-clause-can
take_from_live-found-requires-clause-can g c = (
  can_call _ _ _ _ (end (mine_of c.pass.inside.seat.me.0).team (with_last c.args.longer.now.value c.args.last) (ending_of c.args.how)) c.pass.invariant.1
      (ap (λ z. z.tree.about) c.pass.view_is ∙ ap (λ z. z.about) c.requires.tree) refl
      (subst (λ l. Contains l (with_last c.args.longer.now.value c.args.last)) (sym (ap (λ z. z.hand) c.pass.view_is)) c.requires.hand),
  c.pass.invariant.1.at_rest_now,
)

pub take_from_live-found-requires-clause-ends : goal.take_from_live-found-requires-clause-ends
take_from_live-found-requires-clause-ends g c = refl

pub invariant_of-pass : goal.invariant_of-pass
invariant_of-pass g c =
    let told = c.take_from_live-found.ensures.told in (
      told.1,
      call_pass (end (mine_of c.pass.inside.seat.me.0).team (with_last c.args.longer.now.value c.args.last) (ending_of c.args.how)) _ _
          c.take_from_live-found.result _ _ _ told.0 c.pass.invariant.1 c.count_end.ensures,
    )

pub returns : goal.returns
returns g c =
    let told = c.take_from_live-found.ensures.told.0 in
    let is : nat_eq c.take_from_live-found.result 1 ≡ is_last c.if-found-eq1.result = elim c.if-found-eq1.branch [
      | then-found-eq1 w ↦ (Decides-eqb c.take_from_live-found.result 1).1 w.if-found-eq1.true ∙ sym (ap is_last w.result-is)
      | else-found-eq1 w ↦ differs c.take_from_live-found.result 1 w.if-found-eq1.false ∙ sym (ap is_last w.result-is)
    ] in
    call_makes (end (mine_of c.pass.inside.seat.me.0).team (with_last c.args.longer.now.value c.args.last) (ending_of c.args.how)) _ _ _ _
    c.take_from_live-found.result _ _ _ c.pass.view_is
    (ap (λ z. end z.team (with_last c.args.longer.now.value c.args.last) (ending_of c.args.how)) c.pass.view_is) c.take_from_live-found.ensures.same told
    (told.tells ∙ ap last is)
