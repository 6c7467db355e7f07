use Rattle.std.proofs.Common.{ap, sym, ◌∙◌, refl}
use Rattle.and_syntax.specs.Written.{place}
use Rattle.and_program.specs.Nodes.{names_of}
use Rattle.and_drafts.proofs.Naming.{including_new, place_items, place-included}
use Rattle.and_judging.proofs.numbering.note_new_name.Goals as goal

pub returns-clause-ok : goal.returns-clause-ok
returns-clause-ok c = including_new c.args.name.items c.args.name c.args.names.now.keys c.insert_full.new.self.keys refl c.in_ok-number.ensures.keys

pub returns-clause-number : goal.returns-clause-number
returns-clause-number c =
    let keys = c.args.names.now.keys in
    let new = including_new c.args.name.items c.args.name keys c.insert_full.new.self.keys refl c.in_ok-number.ensures.keys in
    c.in_ok-number.ensures.index ∙ place_items c.args.name.items keys ∙ sym (place-included c.args.name.items (names_of keys))
    ∙ sym (ap (place c.args.name.items) new)
