use Rattle.std.proofs.Common.{◌≤◌, ◌≡◌, [], ◌∷◌, length, reverse}
use Rattle.and_translation.specs.Bodies.{behind_first}
use Rattle.and_drafts.specs.Drafts.{draft_of}
use Rattle.and_grammar.specs.Views.{body_at}
use Rattle.and_grammar.specs.Acts.{body, acts_of, stand_of, all_done, AreBelow, AreTasksWithin, efforts}
use Rattle.and_grammar.proofs.Standing.{stand}
use Rattle.and_grammar.proofs.threading.thread.Given as goal

abbrev pub invariant-loop-task : goal.invariant-loop-task
invariant-loop-task l = record {
  line : (draft_of l.threaded.out).line ≡ (draft_of l.fn.out).line;
  same : all_done (acts_of l.rule (reverse l.pending.items)) (stand_of l.threaded)
      ≡ all_done (body (behind_first (body_at l.rule l.body)) ∷ []) (stand (draft_of l.fn.out).finished [] 0 1);
  counted : l.threaded.goals ≤ length (draft_of l.threaded.out).finished;
  below : AreBelow (acts_of l.rule (reverse l.pending.items)) (length (stand_of l.threaded).below);
  within : AreTasksWithin l.rule (reverse l.pending.items);
}

abbrev pub decreases-loop-task : goal.decreases-loop-task
decreases-loop-task l = efforts l.rule (reverse l.pending.items)
