use Rattle.std.proofs.Common.{◌≡◌, ◌||◌, ℕ, drop, map}
use Rattle.and_model.specs.Programs.{clause_at}
use Rattle.and_program.specs.Loaded.{program_of}
use Rattle.and_lint.specs.Marked.{Grows, IsEven, marked, some_calls}
use Rattle.and_program.specs.Loaded.{skeleton_of}
use Rattle.and_program.specs.Skeletons.{item_of}
use Rattle.and_program.specs.Items.{node_item}
use Rattle.and_lint.proofs.reaching.Reached.reach_from.Given as goal

abbrev pub invariant-loop-item : goal.invariant-loop-item
invariant-loop-item l =
    let P = program_of l.loaded in
    let items = (clause_at P l.fn.no.0).body in
    Grows l.initial.self.marks.items l.self.marks.items l.initial.self.work.items l.self.work.items
    × IsEven P l.self.marks.items
    × ((c : ℕ) → marked l.self.marks.items c || some_calls P
    (map (item_of (skeleton_of l.loaded).nodes) (map node_item (drop l.item-index l.item-items))) c ≡ marked l.initial.self.marks.items c
    || some_calls P items c)
