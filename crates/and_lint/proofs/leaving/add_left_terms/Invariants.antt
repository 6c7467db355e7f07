use Rattle.std.proofs.Common.{drop, map}
use Rattle.std.specs.List.{flat_map}
use Rattle.and_model.specs.Programs.{clause_at}
use Rattle.and_program.specs.Loaded.{program_of}
use Rattle.and_lint.specs.Findings.{left_lines_of}
use Rattle.and_lint.specs.Held.{items_shown}
use Rattle.and_lint.specs.Kept.{Comes}
use Rattle.and_program.specs.Loaded.{skeleton_of}
use Rattle.and_program.specs.Skeletons.{item_of}
use Rattle.and_program.specs.Items.{node_item}
use Rattle.and_lint.proofs.leaving.add_left_terms.Given as goal

abbrev pub invariant-loop-item : goal.invariant-loop-item
invariant-loop-item l =
    let P = program_of l.loaded in
    let k = clause_at P l.no.0 in
    Comes l.initial.findings (flat_map (left_lines_of P k) (items_shown (skeleton_of l.loaded).nodes l.items)) l.findings (flat_map (left_lines_of P k)
    (map (item_of (skeleton_of l.loaded).nodes) (map node_item (drop l.item-index l.items))))
