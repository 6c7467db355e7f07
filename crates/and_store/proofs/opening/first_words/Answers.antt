use Rattle.std.proofs.Common.{◌∙◌, ap, ◌++◌, ◌∷◌, [], ◌*◌, ◌+◌, ◌-◌, map, take, replicate, length}
use Rattle.and_model.specs.Words.{word_of}
use Rattle.and_store.specs.Sight.{About}
use Rattle.and_store.proofs.Dealing.{words_built}
use Rattle.and_store.proofs.opening.first_words.Goals as goal

pub returns-clause-words : goal.returns-clause-words
returns-clause-words g c =
    let a : About = record { first = c.args.cells.now; words = c.args.words; seats = c.args.seats; waiters = c.args.waiters } in
    let goals = 2 * (c.args.seats * c.args.waiters) in
    words_built g.N.Naming.program a goals c.requires.words.0
    c.push_words.new.row.items c.resize.new.self.items c.push_places.new.row.items c.resize-2.new.self.items c.push-2.new.self.items
    (c.in_ok-push_words.ensures.words ∙ ap (λ l. l ++ map word_of c.args.cells.now) c.in_ok-row.ensures.items)
    (c.in_ok-resize.ensures.items
    ∙ ap (λ x. take c.args.words c.push_words.new.row.items ++ replicate (c.args.words - x) c.to_word.result) c.push_words.new.row.ok.0
    ∙ ap (λ x. take c.args.words c.push_words.new.row.items ++ replicate (c.args.words - length c.push_words.new.row.items) x) c.to_word.ensures)
    c.in_ok-push_places.ensures
    (c.in_ok-resize-2.ensures.items
    ∙ ap (λ x. take (c.args.words + c.args.words + goals) c.push_places.new.row.items ++ replicate (c.args.words + c.args.words + goals - x) 0)
    c.push_places.new.row.ok.0)
    (c.in_ok-push-2.ensures.items ∙ ap (λ l. l ++ 0 ∷ []) (c.in_ok-push.ensures.items ∙ ap (λ n. c.resize-2.new.self.items ++ n ∷ []) c.len.ensures.value))
