use Rattle.std.proofs.Common.{ℕ, List}
use Rattle.std.specs.List.{flat_map}
use Rattle.and_program.specs.Loaded.{skeleton_of}
use Rattle.and_program.specs.Skeletons.{node_term}
use Rattle.and_lint.specs.Bodies.{variable_for}
use Rattle.and_lint.proofs.Growing.{pushed_end, pushed_on}
use Rattle.and_lint.proofs.occurring.push_arguments.Goals as goal

pub loop-place-preserved : goal.loop-place-preserved
loop-place-preserved c =
    let f : ℕ → List ℕ = variable_for (node_term (skeleton_of c.args.loaded.now).nodes c.args.goal.0) in
    pushed_on f c.args.variables.now.items c.loop-place.variables.items c.push_argument.new.variables.items (flat_map f c.args.places.now)
    c.args.places.now c.loop-place.place-index c.loop-place-test.true c.loop-place.invariant c.in_ok-push_argument.ensures

pub returns : goal.returns
returns c =
    let f : ℕ → List ℕ = variable_for (node_term (skeleton_of c.args.loaded.now).nodes c.args.goal.0) in
    pushed_end f c.args.variables.now.items c.loop-place.variables.items (flat_map f c.args.places.now)
    c.args.places.now c.loop-place.place-index c.loop-place-test.false c.loop-place.invariant
