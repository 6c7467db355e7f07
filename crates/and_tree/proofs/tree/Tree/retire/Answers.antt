use Rattle.std.proofs.Common.{sym, subst, Contains}
use Rattle.and_histories.specs.PlainTree.{end, last, retired}
use Rattle.and_tree.specs.Passes.{Makes}
use Rattle.and_tree.specs.Replies.{is_last}
use Rattle.and_tree.proofs.tree.Tree.retire.Goals as goal

pub end-requires-clause-hand : goal.end-requires-clause-hand
end-requires-clause-hand g c = subst (λ k. Contains c.args.pass.now.hand k) (sym c.of.ensures) c.requires.hand

pub returns : goal.returns
returns g c =
    subst (λ k. Makes (end c.args.pass.now.team k retired) (last (is_last c.end.result)) c.args.pass.now c.end.new.pass) c.of.ensures c.end.ensures
