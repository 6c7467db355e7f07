use Rattle.std.proofs.Common.{List, [], ◌∷◌, ◌++◌, ◌+◌, reverse, false, ap, ◌∙◌}
use Rattle.and_grammar.specs.declared.threading.Task.{Task}
use Rattle.and_grammar.specs.declared.threading.Task.TheVariants.{Body, EndAlternative}
use Rattle.and_grammar.proofs.Standing.{two_last}
use Rattle.and_grammar.proofs.threading.push_alternative.Goals as goal

pub returns : goal.returns
returns c =
    ap reverse (c.in_ok-push-2.ensures.items ∙ ap (λ (ts : List Task). ts ++ Body c.args.place false ∷ []) c.in_ok-push.ensures.items)
    ∙ two_last c.args.pending.now.items (Body c.args.place false) (EndAlternative c.args.into)
