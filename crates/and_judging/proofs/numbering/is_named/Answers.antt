use Rattle.std.proofs.Common.{rules, ◌≡◌, ◌∙◌, true, ap, sym, Some}
use Rattle.std.specs.Str.{bytes_eq}
use Rattle.std.specs.Option.{option_copied}
use Rattle.std.specs.List.{slice_get}
use Rattle.and_drafts.proofs.Naming.{place_there, has_there}
use Rattle.and_judging.proofs.numbering.is_named.Goals as goal

pub returns-in-Some-clause-number : goal.returns-in-Some-clause-number
returns-in-Some-clause-number c = λ same.
    let at : slice_get c.args.names.now.keys c.args.number ≡ Some c.in-Some.there.now =
    sym c.get_index.ensures.key ∙ ap option_copied c.in-Some.is in
    let e : bytes_eq c.args.name.now c.in-Some.there.now.items ≡ true = search rules in
    place_there c.args.name.now c.in-Some.there.now c.args.names.now.keys c.args.number c.len-count.ensures.unique at e

pub returns-in-Some-clause-there : goal.returns-in-Some-clause-there
returns-in-Some-clause-there c = λ same.
    let at : slice_get c.args.names.now.keys c.args.number ≡ Some c.in-Some.there.now =
    sym c.get_index.ensures.key ∙ ap option_copied c.in-Some.is in
    let e : bytes_eq c.args.name.now c.in-Some.there.now.items ≡ true = search rules in
    has_there c.args.name.now c.in-Some.there.now c.args.names.now.keys c.args.number at e
