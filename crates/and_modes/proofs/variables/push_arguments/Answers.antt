use Rattle.std.proofs.Common.{◌≡◌, ◌<◌, ◌≤◌, ◌-◌, ◌+◌, ℕ, arith, length}
use Rattle.and_program.specs.Loaded.{skeleton_of, arguments_at}
use Rattle.and_modes.proofs.Walking.{one_more_pushed}
use Rattle.and_modes.proofs.variables.push_arguments.Goals as goal

pub loop-place-preserved : goal.loop-place-preserved
loop-place-preserved c =
    let args = arguments_at (skeleton_of c.args.loaded.now) c.args.node.0 in
    let few : c.loop-place.place ≤ c.args.count = c.loop-place.invariant.1 in
    let some : 0 < c.loop-place.place = c.loop-place-test.true in
    let all : c.args.count ≡ length args = c.requires.count in
    let i : ℕ = c.loop-place.place - 1 in
    let next : c.loop-place.place ≡ i + 1 = omega arith in (
      one_more_pushed c.args.stack.now.items c.loop-place.stack.items c.push.new.self.items args i c.argument.result (omega arith) c.argument.ensures.node
          (rw (← next) c.loop-place.invariant.0) c.in_ok-push.ensures.items,
      omega arith,
    )
