use Rattle.std.proofs.Common.{◌≡◌, reverse}
use Rattle.and_translation.specs.Bodies.{behind_first}
use Rattle.and_translation.specs.Translation.{walk}
use Rattle.and_grammar.specs.Views.{body_at}
use Rattle.and_grammar.specs.Acts.{acts_of, AreTasksWithin, efforts}
use Rattle.and_grammar.specs.Counts.{all_counted}
use Rattle.and_grammar.proofs.counting.state_behind.Given as goal

abbrev pub invariant-loop-task : goal.invariant-loop-task
invariant-loop-task l = record {
  same : let w = walk (behind_first (body_at l.rule l.body)) 0 1 in
      all_counted (acts_of l.rule (reverse l.pending.items)) l.counted.state l.counted.next ≡ (w.behind, w.next);
  within : AreTasksWithin l.rule (reverse l.pending.items);
}

abbrev pub decreases-loop-task : goal.decreases-loop-task
decreases-loop-task l = efforts l.rule (reverse l.pending.items)
