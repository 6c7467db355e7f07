use Rattle.std.proofs.Common.{[], ◌∷◌, ◌∙◌, ap, unwrap_or}
use Rattle.std.specs.HashMap.{get}
use Rattle.and_program.specs.Predicates.{same_key}
use Rattle.and_program.proofs.PredicateLemmas.{items-put_back}
use Rattle.and_program.proofs.predicates.note.Goals as goal

pub returns : goal.returns
returns c = λ q.
    items-put_back (get same_key c.args.found.now) c.args.predicate q (get same_key c.remove.new.self q) (get same_key c.insert.new.self q) c.new.result
    c.unwrap_or-numbers.result c.push.new.self (c.args.number ∷ [])
    c.new.ensures.items (c.unwrap_or-numbers.ensures ∙ ap (λ o. unwrap_or o c.new.result) c.remove.ensures.value) c.in_ok-push.ensures.items
    (c.remove.ensures.updates.0 q) (c.in_ok-insert.ensures.updates.0 q)
