use Rattle.std.proofs.Common.{◌≡◌, ◌+◌, ◌-◌, ◌*◌, ◌^◌, ◌++◌, length, map}
use Rattle.and_model.specs.Lines.{shown}
use Rattle.and_program.specs.Loaded.{program_of, skeleton_of}
use Rattle.and_program.specs.Skeletons.{node_term}
use Rattle.and_lint.specs.Kept.{unframed}
use Rattle.and_lint.specs.Printed.{AreTasksThere, texts_ahead}
use Rattle.and_lint.proofs.printing.write_term.Given as goal

abbrev pub invariant-loop-task : goal.invariant-loop-task
invariant-loop-task l =
    let ss = (skeleton_of l.loaded).nodes in
    let names = (program_of l.loaded).names in
    let vs = map unframed l.order.items in
    AreTasksThere (length ss) l.work.items
    × (l.text ++ texts_ahead names vs ss l.work.items ≡ l.initial.text ++ shown names vs (node_term ss l.fn.node.0))

abbrev pub decreases-loop-task : goal.decreases-loop-task
decreases-loop-task l = 3 * (2 ^ 64 - length l.text) + length l.work.items
