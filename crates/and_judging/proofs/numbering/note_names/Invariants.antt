use Rattle.std.proofs.Common.{◌≡◌, map, reverse, length}
use Rattle.and_syntax.specs.Written.{named, named_all, nodes_in}
use Rattle.and_program.specs.Skeletons.{Falls}
use Rattle.and_program.specs.Nodes.{names_of}
use Rattle.and_drafts.specs.Numbered.{Extends}
use Rattle.and_drafts.specs.Parts.{part_shapes, many, written_at}
use Rattle.and_judging.proofs.numbering.note_names.Given as goal

abbrev pub invariant-loop-number : goal.invariant-loop-number
invariant-loop-number l = record {
  owed : named_all (names_of l.names.keys) (many (map (written_at (part_shapes l.parts)) (reverse l.pending.items)))
      ≡ named (names_of l.initial.names.keys) (written_at (part_shapes l.parts) l.root);
  there : Falls (length l.parts) l.pending.items;
  kept : Extends (names_of l.initial.names.keys) (names_of l.names.keys);
}

abbrev pub decreases-loop-number : goal.decreases-loop-number
decreases-loop-number l = nodes_in (many (map (written_at (part_shapes l.parts)) (reverse l.pending.items)))
