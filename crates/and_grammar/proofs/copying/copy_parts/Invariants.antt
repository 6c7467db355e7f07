use Rattle.std.proofs.Common.{◌≡◌, [], ◌∷◌, ◌++◌, length, reverse}
use Rattle.and_drafts.specs.Drafts.{draft_of}
use Rattle.and_grammar.specs.Views.{term_at}
use Rattle.and_grammar.specs.Copies.{copied, AreEnough, AreWithin, work}
use Rattle.and_grammar.proofs.copying.copy_parts.Given as goal

abbrev pub invariant-loop-copy : goal.invariant-loop-copy
invariant-loop-copy l = record {
  line : (draft_of l.out).line ≡ (draft_of l.fn.out).line;
  same : copied l.rule (reverse l.pending.items) (draft_of l.out).finished ≡ (draft_of l.fn.out).finished ++ term_at l.rule l.place ∷ [];
  enough : AreEnough l.rule (reverse l.pending.items) (length (draft_of l.out).finished);
  within : AreWithin l.rule (reverse l.pending.items);
}

abbrev pub decreases-loop-copy : goal.decreases-loop-copy
decreases-loop-copy l = work l.rule (reverse l.pending.items)
