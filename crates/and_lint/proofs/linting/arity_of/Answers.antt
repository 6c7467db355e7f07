use Rattle.std.proofs.Common.{◌∙◌, ap}
use Rattle.and_program.specs.Loaded.{skeleton_of}
use Rattle.and_program.specs.Skeletons.{node_term}
use Rattle.and_program.specs.Shown.{count_of}
use Rattle.and_lint.proofs.Faces.{arity_shown}
use Rattle.and_lint.proofs.linting.arity_of.Goals as goal

pub returns : goal.returns
returns c = c.count.ensures ∙ ap count_of c.kind.ensures.term ∙ arity_shown (node_term (skeleton_of c.args.loaded.now).nodes c.args.node.0)
