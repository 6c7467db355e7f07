use Rattle.and_program.specs.Nodes.{names_of}
use Rattle.and_drafts.specs.Numbered.{Extends}
use Rattle.and_judging.proofs.LiftedNames.{Numbers}
use Rattle.and_judging.proofs.numbering.note_disjunctions.Given as goal

abbrev pub invariant-loop-place : goal.invariant-loop-place
invariant-loop-place l = record {
  numbered : Numbers l.first l.place (names_of l.initial.names.keys) (names_of l.names.keys) l.numbers.items;
  kept : Extends (names_of l.initial.names.keys) (names_of l.names.keys);
}
