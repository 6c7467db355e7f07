use Rattle.std.proofs.Common.{◌≡◌, [], drop}
use Rattle.and_drafts.specs.Numbered.{met_by}
use Rattle.and_drafts.specs.Parts.{part_shapes}
use Rattle.and_drafts.specs.Variables.{AllNumbered}
use Rattle.and_judging.proofs.numbering.written_names.Given as goal

abbrev pub invariant-loop-part : goal.invariant-loop-part
invariant-loop-part l = record {
  met : met_by l.names.items (part_shapes (drop l.part-index l.parts)) ≡ met_by [] (part_shapes l.parts);
  numbered : AllNumbered l.names.items (drop l.part-index l.parts);
}
