use Rattle.and_reduction.proofs.AskingNothing.{AskAsMuch}
use Rattle.and_reduction.proofs.asking.ask_nothing.Given as goal

abbrev pub invariant-loop-item : goal.invariant-loop-item
invariant-loop-item l = AskAsMuch l.items l.item-index
