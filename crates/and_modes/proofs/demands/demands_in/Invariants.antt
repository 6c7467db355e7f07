use Rattle.std.proofs.Common.{◌≡◌, ◌++◌, drop, map}
use Rattle.and_model.specs.Programs.{Clause, clause_at}
use Rattle.and_program.specs.Loaded.{skeleton_of, program_of}
use Rattle.and_program.specs.Skeletons.{item_of}
use Rattle.and_program.specs.Items.{node_item}
use Rattle.and_modes.specs.Modes.{at_entry, after_items}
use Rattle.and_modes.specs.Asked.{asked_along}
use Rattle.and_modes.specs.Kept.{assignment_of}
use Rattle.and_modes.specs.Known.{environment}
use Rattle.and_modes.proofs.demands.demands_in.Given as goal

abbrev pub invariant-loop-item : goal.invariant-loop-item
invariant-loop-item l =
    let k : Clause = clause_at (program_of l.loaded) l.fn.no.0 in
    let m = assignment_of l.modes in
    let rest = map (item_of (skeleton_of l.loaded).nodes) (map node_item (drop l.item-index l.item-items)) in
    (asked_along m (at_entry m k) k.body ≡ l.demands.items ++ asked_along m (environment l.known.levels) rest)
    × (after_items m (at_entry m k) k.body ≡ after_items m (environment l.known.levels) rest)
