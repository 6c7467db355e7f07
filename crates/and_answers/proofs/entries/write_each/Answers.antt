use Rattle.std.proofs.Common.{[], ◌∷◌, ◌++◌, ap, sym, ◌∙◌, subst, arith}
use Rattle.and_model.specs.Lines.{Bytes}
use Rattle.and_answers.specs.LinePieces.{IsKept}
use Rattle.and_answers.specs.declared.found.Entry.{Entry}
use Rattle.and_answers.proofs.LineLemmas.{lines_step}
use Rattle.and_answers.proofs.entries.write_each.Goals as goal

pub write_one-requires : goal.write_one-requires
write_one-requires c =
    subst (λ (e : Entry). IsKept c.args.lines.now e) (sym c.entry-item.is) (c.requires c.loop-entry.entry-index c.entry-item.result (omega arith))

pub loop-entry-preserved : goal.loop-entry-preserved
loop-entry-preserved c =
    let with_line : Bytes → Bytes = λ line. c.loop-entry.text ++ line ++ 10 ∷ [] in
    let written = c.in_ok-write_one.ensures ∙ ap with_line (ap (λ (e : Entry). e.line.value) c.entry-item.is) in
    lines_step c.args.entries.now c.loop-entry.entry-index c.entry-item.result c.loop-entry.text c.write_one.new.text _
    (omega arith) written c.loop-entry.invariant
