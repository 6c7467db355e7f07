use Rattle.std.proofs.Common.{◌++◌, List, map, take, ap, sym, ◌∙◌}
use Rattle.std.proofs.lemmas.List.{take-map}
use Rattle.and_model.specs.Listing
use Rattle.and_model.specs.Output.{lines_of}
use Rattle.and_answers.specs.Kept.{entry_of}
use Rattle.and_answers.specs.declared.found.Entry.{Entry}
use Rattle.and_answers.proofs.KeptLemmas.{kept_part}
use Rattle.and_answers.proofs.entries.EntryList.write_lines.Goals as goal

pub write_each-requires : goal.write_each-requires
write_each-requires c =
    kept_part c.self.inside.lines c.self.inside.entries.items _ c.args.count
    (c.first_of.ensures ∙ ap (λ (es : List Entry). take c.args.count es) c.deref.ensures.value) c.self.invariant

pub returns : goal.returns
returns c =
    let some = ap (map entry_of) (c.first_of.ensures ∙ ap (λ (es : List Entry). take c.args.count es) c.deref.ensures.value)
    ∙ sym (take-map entry_of c.args.count c.self.inside.entries.items)
    ∙ ap (λ (es : List Entry). take c.args.count (map entry_of es)) c.self.view_is in
    c.in_ok-write_each.ensures ∙ ap (λ (es : List Listing.Entry). c.args.text.now ++ lines_of es) some
