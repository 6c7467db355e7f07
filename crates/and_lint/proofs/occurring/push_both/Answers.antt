use Rattle.std.proofs.lemmas.Result.{on_ok_weaker}
use Rattle.and_program.specs.Loaded.{skeleton_of}
use Rattle.and_program.specs.Skeletons.{node_term}
use Rattle.and_lint.proofs.Growing.{both_pushed}
use Rattle.and_lint.proofs.occurring.push_both.Goals as goal

pub returns : goal.returns
returns c =
    on_ok_weaker c.push_variables-2.result
    (λ e. both_pushed c.args.variables.now.items c.push_variables.new.variables.items c.push_variables-2.new.variables.items
    (node_term (skeleton_of c.args.loaded.now).nodes c.args.left.0) (node_term (skeleton_of c.args.loaded.now).nodes c.args.right.0)
    c.in_ok-push_variables.ensures e) c.push_variables-2.ensures
