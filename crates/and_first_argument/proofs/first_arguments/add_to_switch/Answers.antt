use Rattle.std.proofs.Common.{◌≤◌, [], ◌∷◌, length, Err, ap, subst}
use Rattle.and_first_argument.specs.Additions.{keys_after}
use Rattle.and_first_argument.specs.declared.first_arguments.Addition.{Addition}
use Rattle.and_first_argument.proofs.AdditionsLemmas.{not_full}
use Rattle.and_first_argument.proofs.first_arguments.add_to_switch.Goals as goal

pub unreachable-requires : goal.unreachable-requires
unreachable-requires g c =
    let keys = c.args.switch.now.keys in
    let full = c.in-Err-Full.ensures.only_full c.in-Err-Full.field-0-0 (ap (λ fault. Err fault) c.in-Err-Full.field-0-is) in
    let fits = subst (λ (a : Addition). length (keys_after keys (a ∷ [])) ≤ g.row.W) c.in-Under.is c.requires in
    not_full keys c.in-Under.key g.row.W fits full.1.0 full.1.1
