use Rattle.std.proofs.Common.{get_or, ap, arith}
use Rattle.std.proofs.lemmas.List.{get_or_default}
use Rattle.std.proofs.lemmas.List.Edits.{map_over_more}
use Rattle.and_answers.specs.LinePieces.{moved_on}
use Rattle.and_answers.specs.declared.found.Entry.{Entry}
use Rattle.and_answers.proofs.KeptLemmas.{still_there}
use Rattle.and_answers.proofs.entries.move_on.Goals as goal

pub overflow_add-entry : goal.overflow_add-entry
overflow_add-entry c =
    let i = c.loop-entry.entry-index in
    let entries = c.loop-entry.entries in
    let entry : Entry = get_or entries i c.entry-item.result in
    let at = get_or_default entries i c.entry-item.result entry (omega arith) in
    let within = c.requires i entry (omega arith) in
    let same = ap (λ (e : Entry). e.place)
    (still_there (moved_on c.args.by) c.args.entries.now entries i entry (omega arith) c.loop-entry.invariant at) in
    omega (arith, within, same)

pub loop-entry-preserved : goal.loop-entry-preserved
loop-entry-preserved c =
    let i = c.loop-entry.entry-index in
    let entries = c.loop-entry.entries in
    let entry : Entry = get_or entries i c.entry-item.result in
    map_over_more (moved_on c.args.by) c.args.entries.now entries i entry (omega arith) c.loop-entry.invariant
    (get_or_default entries i c.entry-item.result entry (omega arith))
