use Rattle.std.proofs.Common.{◌<◌, ap, ◌∙◌, arith}
use Rattle.and_program.specs.Loaded.{skeleton_of}
use Rattle.and_program.specs.Shown.{count_of, shown_term}
use Rattle.and_program.specs.Skeletons.{node_term}
use Rattle.and_clause_index.proofs.Doubled.{doubled}
use Rattle.and_clause_index.proofs.prints.is_doubled.Goals as goal

pub returns : goal.returns
returns c = λ is.
    let skeleton = skeleton_of c.args.loaded.now in
    let node = c.args.node.0 in
    let counted = c.count_in-count.ensures ∙ ap count_of c.kind.ensures.term in
    let low : 1 < count_of (shown_term (node_term skeleton.nodes node)) = omega arith in
    doubled skeleton c.skeleton_is_of_the_program.ensures.skeleton.0 node c.argument-first.result.0 c.argument-second.result.0
    c.kind-2.result c.kind-3.result low c.argument-first.ensures.term c.argument-second.ensures.term c.kind-2.ensures.shape
    c.kind-3.ensures.shape (c.are_one_variable.ensures is)
