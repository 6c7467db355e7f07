use Rattle.std.proofs.Common.{ap, sym, subst, ◌∙◌, [], drop, ◌+◌}
use Rattle.std.proofs.lemmas.List.{drop_all}
use Rattle.and_drafts.specs.Numbered.{met_by}
use Rattle.and_drafts.specs.Parts.{part_shapes}
use Rattle.and_drafts.specs.Variables.{AllNumbered}
use Rattle.and_drafts.proofs.Naming.{met_more}
use Rattle.and_judging.proofs.WrittenNames.{numbered_at}
use Rattle.and_judging.proofs.numbering.written_names.Goals as goal

pub loop-part-init : goal.loop-part-init
loop-part-init c = record {
  met = ap (λ ms. met_by ms (part_shapes c.args.parts.now)) c.in_ok-names.ensures.items;
  numbered = subst (λ ms. AllNumbered ms c.args.parts.now) (sym c.in_ok-names.ensures.items) c.requires.numbered;
}

pub note_variable-requires : goal.note_variable-requires
note_variable-requires c =
    (numbered_at c.loop-part.names.items c.args.parts.now c.loop-part.part-index c.part-item.result c.loop-part-test.true c.part-item.is
    c.loop-part.invariant.numbered).0

pub loop-part-preserved : goal.loop-part-preserved
loop-part-preserved c = record {
  met = met_more c.loop-part.names.items c.note_variable.new.names.items c.args.parts.now c.loop-part.part-index c.part-item.result
      (met_by [] (part_shapes c.args.parts.now))
      c.loop-part-test.true c.part-item.is c.in_ok-note_variable.ensures c.loop-part.invariant.met;
  numbered = subst (λ ms. AllNumbered ms (drop (c.loop-part.part-index + 1) c.args.parts.now)) (sym c.in_ok-note_variable.ensures)
      (numbered_at c.loop-part.names.items c.args.parts.now c.loop-part.part-index c.part-item.result c.loop-part-test.true c.part-item.is
      c.loop-part.invariant.numbered).1;
}

pub returns : goal.returns
returns c = sym (ap (λ qs. met_by c.loop-part.names.items (part_shapes qs)) (drop_all c.loop-part.part-index c.args.parts.now c.loop-part-test.false))
    ∙ c.loop-part.invariant.met
