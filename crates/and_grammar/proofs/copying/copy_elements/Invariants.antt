use Rattle.std.proofs.Common.{◌<◌, ◌≤◌, ◌≡◌, List, Some, length}
use Rattle.and_syntax.specs.Written.{Written, nodes_of}
use Rattle.and_translation.specs.Bodies.{elements}
use Rattle.and_drafts.specs.Drafts.{draft_of}
use Rattle.and_grammar.specs.Views.{term_at}
use Rattle.and_grammar.proofs.CopyLemmas.{Left}
use Rattle.and_grammar.proofs.copying.copy_elements.Given as goal

abbrev pub invariant-loop-next : goal.invariant-loop-next
invariant-loop-next l = record {
  there : l.rest < (draft_of l.rule).parts;
  enough : l.count ≤ length (draft_of l.out).finished;
  left : (items : List Written) → elements (term_at l.rule l.list) ≡ Some items → Left l.rule l.fn.out l.out l.rest l.count items;
}

abbrev pub decreases-loop-next : goal.decreases-loop-next
decreases-loop-next l = nodes_of (term_at l.rule l.rest)
