use Rattle.std.proofs.Common.{ap, refl, sym, subst, length, ◌+◌, ◌≤◌, ◌∙◌, Contains}
use Rattle.and_histories.specs.PlainTree.{fork}
use Rattle.and_tree.specs.Few.{most_in_hand}
use Rattle.and_tree.specs.Forked.{Fork}
use Rattle.and_tree.specs.Sight.{mine_of}
use Rattle.and_tree.proofs.Telling.{can_call, call_makes, call_pass}
use Rattle.and_tree.proofs.tree.Tree.fork.Goals as goal

pub add_to_live-requires-clause-can : goal.add_to_live-requires-clause-can
add_to_live-requires-clause-can g c =
    let split : Fork = g.S.Forking.fork_of c.args.split.now in
    let hand = ap (λ z. z.hand) c.pass.view_is in (
      can_call _ _ _ _ (fork (mine_of c.pass.inside.seat.me.0).team split.key split.longer split.clauses) c.pass.invariant.1
          (ap (λ z. z.tree.about) c.pass.view_is ∙ ap (λ z. z.about) c.requires.tree) refl (
            subst (λ l. Contains l split.key) (sym hand) c.requires.hand,
            c.requires.longer,
            subst (λ l. length l + length split.clauses ≤ most_in_hand) (sym hand) c.requires.few,
          ),
      c.pass.invariant.1.at_rest_now,
    )

pub add_to_live-requires-clause-forks : goal.add_to_live-requires-clause-forks
add_to_live-requires-clause-forks g c = refl

pub invariant_of-pass : goal.invariant_of-pass
invariant_of-pass g c =
    let split : Fork = g.S.Forking.fork_of c.args.split.now in
    let told = c.add_to_live.ensures.told in (
      told.2,
      call_pass (fork (mine_of c.pass.inside.seat.me.0).team split.key split.longer split.clauses) _ _ told.0 _ _ _ told.1 c.pass.invariant.1
          c.count_fork.ensures,
    )

pub returns : goal.returns
returns g c =
    let split : Fork = g.S.Forking.fork_of c.args.split.now in
    let told = c.add_to_live.ensures.told in
    call_makes (fork (mine_of c.pass.inside.seat.me.0).team split.key split.longer split.clauses) _ _ _ _ told.0 _ _ _ c.pass.view_is
    (ap (λ z. fork z.team split.key split.longer split.clauses) c.pass.view_is) c.add_to_live.ensures.same told.1 told.1.tells
