use Rattle.std.proofs.Common.{List, ℕ, [], ◌∷◌, ◌++◌, reverse, ap, ◌∙◌}
use Rattle.and_grammar.proofs.Looking.{two_pushed}
use Rattle.and_grammar.proofs.checking.push_two.Goals as goal

pub returns : goal.returns
returns c =
    ap reverse (c.in_ok-push-2.ensures.items ∙ ap (λ (ns : List ℕ). ns ++ c.args.left ∷ []) c.in_ok-push.ensures.items)
    ∙ two_pushed c.args.pending.now.items c.args.left c.args.right
