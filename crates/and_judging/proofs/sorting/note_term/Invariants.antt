use Rattle.std.proofs.Common.{◌≡◌, List, map, reverse, length}
use Rattle.and_model.specs.Lines.{Bytes, first_seen}
use Rattle.and_model.specs.Terms.{variables_of}
use Rattle.and_syntax.specs.Written.{nodes_in}
use Rattle.and_program.specs.Skeletons.{Falls, node_term}
use Rattle.and_drafts.specs.Parts.{part_shapes, many, written_at}
use Rattle.and_judging.specs.Sorts.{shapes_under, own}
use Rattle.and_judging.proofs.Noticing.{variables_at}
use Rattle.and_judging.proofs.sorting.note_term.Given as goal

abbrev pub invariant-loop-number : goal.invariant-loop-number
invariant-loop-number l = record {
  noted : (names : List Bytes) → let ss = shapes_under names l.parts in
      first_seen (own l.variables.items) (variables_at ss (reverse l.pending.items))
      ≡ first_seen (own l.initial.variables.items) (variables_of (node_term ss l.root));
  there : Falls (length l.parts) l.pending.items;
}

abbrev pub decreases-loop-number : goal.decreases-loop-number
decreases-loop-number l = nodes_in (many (map (written_at (part_shapes l.parts)) (reverse l.pending.items)))
