use Rattle.std.proofs.Common.{◌≡◌, ◌≤◌, ◌++◌, ◌∷◌, map, length, reverse, drop}
use Rattle.and_model.specs.declared.reference.Ref.TheVariants.{Node}
use Rattle.and_program.specs.Loaded.{skeleton_of, arguments_at}
use Rattle.and_cells.specs.Parts.{named, parts_of}
use Rattle.and_arith.specs.declared.walk.Task.TheVariants.{Enter, Leave}
use Rattle.and_arith.proofs.values.WorkList.open.Given as goal

abbrev pub invariant-loop-left : goal.invariant-loop-left
invariant-loop-left l = record {
  tasks : reverse l.self.tasks.items ≡ map Enter (drop l.left (parts_of (named l.loaded) (Node l.node l.base)))
      ++ Leave l.fn.name l.fn.count ∷ reverse l.fn.self.tasks.items;
  within : l.left ≤ length (arguments_at (skeleton_of l.loaded) l.node.0);
  values : l.self.values ≡ l.fn.self.values;
  taken : l.self.taken ≡ l.fn.self.taken;
}

abbrev pub decreases-loop-left : goal.decreases-loop-left
decreases-loop-left l = l.left
