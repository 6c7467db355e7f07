use Rattle.std.proofs.Common.{◌≡◌, ◌||◌, reverse}
use Rattle.and_program.specs.Skeletons.{Falls}
use Rattle.and_translation.specs.Bodies.{has_impure, has_wide}
use Rattle.and_drafts.specs.Drafts.{draft_of}
use Rattle.and_grammar.specs.Views.{body_at}
use Rattle.and_grammar.specs.Checked.{are_impure, are_wide, sizes}
use Rattle.and_grammar.proofs.checking.look_over.Given as goal

abbrev pub invariant-loop-place : goal.invariant-loop-place
invariant-loop-place l = record {
  impure : (l.found.impure || are_impure l.rule (reverse l.pending.items)) ≡ has_impure (body_at l.rule l.body);
  wide : (l.found.wide || are_wide l.rule (reverse l.pending.items)) ≡ has_wide (body_at l.rule l.body);
  within : Falls (draft_of l.rule).parts (reverse l.pending.items);
}

abbrev pub decreases-loop-place : goal.decreases-loop-place
decreases-loop-place l = sizes l.rule (reverse l.pending.items)
