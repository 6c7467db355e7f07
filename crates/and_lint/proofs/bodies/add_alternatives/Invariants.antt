use Rattle.std.proofs.Common.{ℕ, List, drop}
use Rattle.std.specs.List.{flat_map}
use Rattle.and_model.specs.Programs.{Item}
use Rattle.and_model.specs.declared.numbers.ClauseNo.{ClauseNo}
use Rattle.and_program.specs.Loaded.{program_of, skeleton_of}
use Rattle.and_program.specs.Skeletons.{node_term}
use Rattle.and_lint.specs.Bodies.{clauses_of, variable_for}
use Rattle.and_lint.specs.Held.{Nears, Tells}
use Rattle.and_lint.proofs.bodies.add_alternatives.Given as goal

abbrev pub invariant-loop-no : goal.invariant-loop-no
invariant-loop-no l =
    (items : ℕ → List Item) (variables : ℕ → List ℕ) → Tells (skeleton_of l.loaded).nodes l.bodies items variables
    → let ss = (skeleton_of l.loaded).nodes in
    let t = node_term ss l.goal.0 in
    let nos = clauses_of (program_of l.loaded) t in
    let ahead = drop l.no-index l.no-items in
    Nears ss l.initial.body (flat_map (λ (d : ClauseNo). items d.0) nos) (flat_map (λ (d : ClauseNo). flat_map (variable_for t) (variables d.0)) nos)
    l.body (flat_map (λ (d : ClauseNo). items d.0) ahead) (flat_map (λ (d : ClauseNo). flat_map (variable_for t) (variables d.0)) ahead)
