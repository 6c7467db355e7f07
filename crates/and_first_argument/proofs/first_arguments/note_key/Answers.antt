use Rattle.std.proofs.Common.{[], ◌∷◌, ap, sym, ◌∙◌}
use Rattle.and_first_argument.specs.Additions.{keys_after}
use Rattle.and_first_argument.specs.declared.first_arguments.Addition.{Addition}
use Rattle.and_first_argument.proofs.KeysLemmas.{keys_inserted}
use Rattle.and_first_argument.proofs.first_arguments.note_key.Goals as goal

pub returns-in_ok-insert : goal.returns-in_ok-insert
returns-in_ok-insert c =
    let keys = c.args.keys.now.keys in
    c.in_ok-insert.ensures.keys ∙ keys_inserted keys c.in-Under.key ∙ ap (λ (a : Addition). keys_after keys (a ∷ [])) (sym c.in-Under.is)
