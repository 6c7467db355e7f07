use Rattle.std.proofs.Common.{◌<◌, ◌≡◌}
use Rattle.and_syntax.specs.Written.{nodes_of}
use Rattle.and_translation.specs.Bodies.{elements}
use Rattle.and_drafts.specs.Drafts.{draft_of}
use Rattle.and_grammar.specs.Views.{term_at, list_part}
use Rattle.and_grammar.proofs.bodies.list_body.Given as goal

abbrev pub invariant-loop-next : goal.invariant-loop-next
invariant-loop-next l = record {
  there : l.end < (draft_of l.rule).parts;
  same : list_part (elements (term_at l.rule l.end)) ≡ list_part (elements (term_at l.rule l.rest));
}

abbrev pub decreases-loop-next : goal.decreases-loop-next
decreases-loop-next l = nodes_of (term_at l.rule l.end)
