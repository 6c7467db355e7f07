use Rattle.std.proofs.Common.{[], ◌∷◌, ◌++◌, List, get_or, ap, sym, ◌∙◌, subst, length, arith}
use Rattle.std.proofs.lemmas.List.{get_or-map}
use Rattle.and_model.specs.Lines.{Bytes}
use Rattle.and_answers.specs.LinePieces.{IsKept}
use Rattle.and_answers.specs.declared.found.Entry.{Entry}
use Rattle.and_answers.proofs.KeptLemmas.{lines_of_entries}
use Rattle.and_answers.proofs.entries.EntryList.write_line.Goals as goal

pub write_one-requires : goal.write_one-requires
write_one-requires c =
    let entry = c.index.result.now in
    let long = ap (λ (es : List Entry). length es) c.self.view_is in
    subst (λ (e : Entry). IsKept c.self.inside.lines e) (sym c.index.ensures) (c.self.invariant c.args.place entry (omega (arith, long, c.requires)))

pub returns : goal.returns
returns c =
    let entry = c.index.result.now in
    let items = c.self.inside.entries.items in
    let long = ap (λ (es : List Entry). length es) c.self.view_is in
    let line = ap (λ (e : Entry). e.line.value) c.index.ensures
    ∙ sym (get_or-map (λ (e : Entry). e.line.value) items c.args.place entry [] (omega (arith, long, c.requires)))
    ∙ ap (λ (es : List Entry). get_or (lines_of_entries es) c.args.place []) c.self.view_is in
    c.in_ok-write_one.ensures ∙ ap (λ (bytes : Bytes). c.args.text.now ++ bytes ++ 10 ∷ []) line
