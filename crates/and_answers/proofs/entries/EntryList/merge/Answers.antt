use Rattle.std.proofs.Common.{◌≡◌, List, map, ap, ◌++◌, ◌∙◌, arith}
use Rattle.and_answers.specs.Kept.{entry_of}
use Rattle.and_answers.specs.LinePieces.{moved_on}
use Rattle.and_answers.specs.declared.found.Entry.{Entry}
use Rattle.and_answers.proofs.KeptLemmas.{as_many, entries_joined, kept_both, written_back}
use Rattle.and_answers.proofs.entries.EntryList.merge.Goals as goal

pub invariant_of-result-in-Ok : goal.invariant_of-result-in-Ok
invariant_of-result-in-Ok c =
    let others : List Entry = c.other.inside.entries.items in
    let moved : List Entry = c.move_on.new.entries in
    let held = c.other.inside.entries.ok.0 in
    let moved_is : moved ≡ map (moved_on c.len-before.result) others =
    c.move_on.ensures ∙ ap (λ (es : List Entry). map (moved_on c.len-before.result) es) c.deref_mut.ensures.value in
    let back = written_back moved others c.other.inside.entries.len (omega (arith, held)) (as_many moved others c.len-before.result moved_is) in
    kept_both c.self.inside.lines c.other.inside.lines _ c.self.inside.entries.items others moved _ c.len-before.result
    c.in-Ok.ensures.ok c.len-before.ensures moved_is
    (c.in-Ok-append.ensures.items ∙ ap (λ (es : List Entry). c.reserve.new.self.items ++ es) back
    ∙ ap (λ (es : List Entry). es ++ moved) c.reserve.ensures.items)
    c.self.invariant c.other.invariant

pub returns-in-Ok-append-clause-ok : goal.returns-in-Ok-append-clause-ok
returns-in-Ok-append-clause-ok c =
    let others : List Entry = c.other.inside.entries.items in
    let moved : List Entry = c.move_on.new.entries in
    let held = c.other.inside.entries.ok.0 in
    let moved_is : moved ≡ map (moved_on c.len-before.result) others =
    c.move_on.ensures ∙ ap (λ (es : List Entry). map (moved_on c.len-before.result) es) c.deref_mut.ensures.value in
    let back = written_back moved others c.other.inside.entries.len (omega (arith, held)) (as_many moved others c.len-before.result moved_is) in
    entries_joined c.self.inside.entries.items others moved _ c.len-before.result moved_is
    (c.in-Ok-append.ensures.items ∙ ap (λ (es : List Entry). c.reserve.new.self.items ++ es) back
    ∙ ap (λ (es : List Entry). es ++ moved) c.reserve.ensures.items)
    ∙ ap (λ (es : List Entry). map entry_of es ++ map entry_of others) c.self.view_is
    ∙ ap (λ (es : List Entry). map entry_of c.args.self ++ map entry_of es) c.other.view_is
