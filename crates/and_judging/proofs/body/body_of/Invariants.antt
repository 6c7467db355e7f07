use Rattle.std.proofs.Common.{◌+◌, ◌*◌, ◌≤◌, List, length}
use Rattle.and_syntax.specs.Clauses.{is_refused, alternatives_of, disjunctions_of}
use Rattle.and_program.specs.Skeletons.{Shape}
use Rattle.and_program.specs.Nodes.{names_of}
use Rattle.and_drafts.specs.Parts.{part_shapes}
use Rattle.and_drafts.specs.Numbered.{IsRead}
use Rattle.and_judging.specs.Bodies.{made_of, marks_at, body_parts}
use Rattle.and_judging.specs.Sorts.{TokensThere}
use Rattle.and_judging.proofs.BodyLoop.{works, AreParts}
use Rattle.and_judging.proofs.BodySteps.{Owed}
use Rattle.and_judging.proofs.body.body_of.Given as goal

abbrev pub invariant-loop-next : goal.invariant-loop-next
invariant-loop-next l = record {
  owed : (ss : List Shape) → IsRead ss 0 (names_of l.names.keys) (part_shapes l.parts)
      → let ps = body_parts ss l.fn.part in
      Owed ss 0 (made_of l.body) l.pending.items (marks_at l.clause l.disjunction ps) (is_refused ps) (l.clause + alternatives_of ps)
      (l.disjunction + disjunctions_of ps);
  there : AreParts (length (part_shapes l.parts)) l.pending.items;
  tokens : TokensThere (length l.parts) l.body.tokens.items;
  clauses : l.body.next_clause + works (part_shapes l.parts) l.pending.items ≤ l.clause + 3 * length l.parts;
  disjunctions : l.body.next_disjunction + works (part_shapes l.parts) l.pending.items ≤ l.disjunction + 3 * length l.parts;
}

abbrev pub decreases-loop-next : goal.decreases-loop-next
decreases-loop-next l = works (part_shapes l.parts) l.pending.items
