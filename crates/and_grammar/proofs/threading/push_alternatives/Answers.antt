use Rattle.std.proofs.Common.{List, [], ◌∷◌, ◌++◌, ◌≡◌, ◌+◌, reverse, false, ap, ◌∙◌}
use Rattle.and_grammar.specs.declared.threading.Task.{Task}
use Rattle.and_grammar.specs.declared.threading.Task.TheVariants.{Body, Others, EndAlternative, Join}
use Rattle.and_grammar.proofs.CopyLemmas.{on_ok}
use Rattle.and_grammar.proofs.Standing.{two_last}
use Rattle.and_grammar.proofs.threading.push_alternatives.Goals as goal

pub returns : goal.returns
returns c =
    let new : List Task = reverse c.push_alternative.new.pending.items in
    let others : Task = Others c.args.right c.args.from c.args.into in
    let e : reverse c.push-2.new.self.items ≡ others ∷ Join ∷ reverse c.args.pending.now.items =
    ap reverse (c.in_ok-push-2.ensures.items ∙ ap (λ (ts : List Task). ts ++ others ∷ []) c.in_ok-push.ensures.items)
    ∙ two_last c.args.pending.now.items others Join in
    on_ok c.push_alternative.result (new ≡ Body c.args.left false ∷ EndAlternative c.args.into ∷ reverse c.push-2.new.self.items)
    (new ≡ Body c.args.left false ∷ EndAlternative c.args.into ∷ others ∷ Join ∷ reverse c.args.pending.now.items)
    (λ h. h ∙ ap (λ (ts : List Task). Body c.args.left false ∷ EndAlternative c.args.into ∷ ts) e) c.push_alternative.ensures
