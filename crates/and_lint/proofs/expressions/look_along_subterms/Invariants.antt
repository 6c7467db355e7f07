use Rattle.std.proofs.Common.{◌∷◌, [], length}
use Rattle.std.specs.List.{flat_map}
use Rattle.and_model.specs.Programs.{clause_at}
use Rattle.and_program.specs.Loaded.{program_of, skeleton_of}
use Rattle.and_program.specs.Skeletons.{node_term}
use Rattle.and_lint.specs.Findings.{no_value_lines_of}
use Rattle.and_lint.specs.Kept.{AreThere, Comes, ahead}
use Rattle.and_lint.specs.Subterms.{subterms}
use Rattle.and_lint.proofs.expressions.look_along_subterms.Given as goal

abbrev pub invariant-loop-left : goal.invariant-loop-left
invariant-loop-left l =
    let ss = (skeleton_of l.loaded).nodes in
    let P = program_of l.loaded in
    let f = no_value_lines_of P (clause_at P l.no.0) in
    AreThere (length ss) l.left.items
    × Comes l.initial.findings (flat_map f (flat_map subterms (node_term ss l.fn.node.0 ∷ []))) l.findings (flat_map f (ahead ss l.left.items))

abbrev pub decreases-loop-left : goal.decreases-loop-left
decreases-loop-left l = length (ahead (skeleton_of l.loaded).nodes l.left.items)
