use Rattle.std.proofs.Common.{◌≡◌, ◌<◌, ◌≤◌, ◌-◌, ◌+◌, ◌∙◌, ℕ, List, length, arith, ap, sym, subst}
use Rattle.and_model.specs.Terms.{Term}
use Rattle.and_model.specs.declared.numbers.NodeNo.{NodeNo}
use Rattle.and_program.specs.Loaded.{skeleton_of, arguments_at}
use Rattle.and_program.specs.Skeletons.{Shape, node_term}
use Rattle.and_program.specs.Shown.{count_of}
use Rattle.and_lint.specs.Kept.{AreThere, arguments_of}
use Rattle.and_lint.proofs.Steps.{count_shown, none_pushed, one_more_pushed, there_pushed}
use Rattle.and_lint.proofs.walking.push_arguments.Goals as goal

pub loop-place-init : goal.loop-place-init
loop-place-init c =
    let ss : List Shape = (skeleton_of c.args.loaded.now).nodes in
    let t : Term = node_term ss c.args.node.0 in
    let counted = c.count-place.ensures in
    let there = c.kind.ensures.count in
    let long : c.count-place.result ≡ length (arguments_of t) = counted ∙ ap count_of c.kind.ensures.term ∙ count_shown t in
    (omega arith, c.requires.stack, none_pushed ss c.args.stack.now.items t c.count-place.result (omega arith))

pub loop-place-preserved : goal.loop-place-preserved
loop-place-preserved c =
    let ss : List Shape = (skeleton_of c.args.loaded.now).nodes in
    let t : Term = node_term ss c.args.node.0 in
    let few : c.loop-place.place ≤ length (arguments_at (skeleton_of c.args.loaded.now) c.args.node.0) = c.loop-place.invariant.0 in
    let some : 0 < c.loop-place.place = c.loop-place-test.true in
    let long : length (arguments_at (skeleton_of c.args.loaded.now) c.args.node.0) ≡ length (arguments_of t) =
    sym c.kind.ensures.count ∙ ap count_of c.kind.ensures.term ∙ count_shown t in
    let i : ℕ = c.loop-place.place - 1 in
    let next : c.loop-place.place ≡ i + 1 = omega arith in
    let below : c.argument.result.0 < c.args.node.0 = c.argument.ensures.below in
    let there : c.args.node.0 < length ss = c.requires.node in (
      omega arith,
      subst (λ (ns : List NodeNo). AreThere (length ss) ns) (sym c.in_ok-push.ensures.items)
          (there_pushed (length ss) c.loop-place.stack.items c.argument.result c.loop-place.invariant.1 (omega arith)),
      one_more_pushed ss c.args.stack.now.items c.loop-place.stack.items c.push.new.self.items t i c.argument.result (omega arith) c.argument.ensures.term
          (rw (← next) c.loop-place.invariant.2) c.in_ok-push.ensures.items,
    )
