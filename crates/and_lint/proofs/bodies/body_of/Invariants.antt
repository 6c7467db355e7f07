use Rattle.std.proofs.Common.{ℕ, List, drop}
use Rattle.std.specs.List.{flat_map}
use Rattle.and_model.specs.Programs.{Item, clause_at}
use Rattle.and_program.specs.Loaded.{program_of, skeleton_of}
use Rattle.and_lint.specs.Bodies.{items_of, variables_of_item}
use Rattle.and_lint.specs.Held.{Nears, Tells, items_shown}
use Rattle.and_lint.proofs.bodies.body_of.Given as goal

abbrev pub invariant-loop-item : goal.invariant-loop-item
invariant-loop-item l =
    (items : ℕ → List Item) (variables : ℕ → List ℕ) → Tells (skeleton_of l.loaded).nodes l.bodies items variables
    → let ss = (skeleton_of l.loaded).nodes in
    let P = program_of l.loaded in
    let all = (clause_at P l.fn.no.0).body in
    let ahead = items_shown ss (drop l.item-index l.item-items) in
    Nears ss l.initial.body (flat_map (items_of P items) all) (flat_map (variables_of_item P variables) all)
    l.body (flat_map (items_of P items) ahead) (flat_map (variables_of_item P variables) ahead)
