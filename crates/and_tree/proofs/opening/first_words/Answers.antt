use Rattle.std.proofs.Common.{◌∙◌, ◌++◌, ◌∷◌, [], ap, refl, ◌+◌, ◌*◌}
use Rattle.and_tree.proofs.Opened.{words_built}
use Rattle.and_tree.proofs.opening.first_words.Goals as goal

pub returns : goal.returns
returns c =
    words_built c.args.teams (c.args.teams * 8 + 1) _ c.word_of.result c.push-2.new.self.items c.resize.new.self.items c.requires.0 refl
    (c.in_ok-push-2.ensures.items ∙ ap (λ l. l ++ c.word_of.result ∷ []) (c.in_ok-push.ensures.items ∙ ap (λ l. l ++ 1 ∷ []) c.in_ok-words.ensures.items))
    c.word_of.ensures c.push-2.new.self.ok.0 c.in_ok-resize.ensures.items
