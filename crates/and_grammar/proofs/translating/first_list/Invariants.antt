use Rattle.std.proofs.Common.{◌<◌, ◌≡◌}
use Rattle.and_syntax.specs.Written.{nodes_of}
use Rattle.and_translation.specs.Bodies.{first_terminals}
use Rattle.and_drafts.specs.Drafts.{draft_of}
use Rattle.and_grammar.specs.Views.{term_at, body_at}
use Rattle.and_grammar.proofs.translating.first_list.Given as goal

abbrev pub invariant-loop-left : goal.invariant-loop-left
invariant-loop-left l = record {
  there : l.first < (draft_of l.rule).parts;
  same : first_terminals (body_at l.rule l.first) ≡ first_terminals (body_at l.rule l.body);
}

abbrev pub decreases-loop-left : goal.decreases-loop-left
decreases-loop-left l = nodes_of (term_at l.rule l.first)
