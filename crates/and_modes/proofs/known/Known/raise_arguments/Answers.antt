use Rattle.std.proofs.Common.{ℕ, ◌<◌, ◌≤◌, ◌∙◌, ap, arith}
use Rattle.and_program.specs.Loaded.{skeleton_of}
use Rattle.and_program.specs.Skeletons.{node_term}
use Rattle.and_model.specs.Terms.{Term}
use Rattle.and_modes.specs.Modes.{Assignment, levels_of, name_of, arguments_of, count_of}
use Rattle.and_modes.specs.Kept.{assignment_of}
use Rattle.and_modes.specs.Known.{environment}
use Rattle.and_modes.proofs.Knowing.{raised_next, raised_end}
use Rattle.and_modes.proofs.known.Known.raise_arguments.Goals as goal

pub loop-place-preserved : goal.loop-place-preserved
loop-place-preserved c =
    let nodes = (skeleton_of c.args.loaded.now).nodes in
    let term : Term = node_term nodes c.args.goal.0 in
    let m : Assignment = assignment_of c.args.modes.now in
    let place : ℕ = c.loop-place.place in
    let counted = c.functor_of-count.ensures.count in
    let test = c.loop-place-test.true in
    let lt : place < count_of (arguments_of term) = omega arith in
    raised_next term (node_term nodes c.argument.result.0) place (levels_of m term c.args.side) c.level-level.result
    (environment c.args.self.now.levels) (environment c.loop-place.self.levels) (environment c.raise.new.self.levels) lt c.loop-place.invariant
    c.argument.ensures.term
    (c.level-level.ensures
    ∙ ap (λ (n : ℕ). m n c.functor_of-count.result.count place c.args.side) c.functor_of-count.ensures.name
    ∙ ap (λ (k : ℕ). m (name_of term) k place c.args.side) counted)
    c.in_ok-raise.ensures

pub returns : goal.returns
returns c =
    let nodes = (skeleton_of c.args.loaded.now).nodes in
    let term : Term = node_term nodes c.args.goal.0 in
    let counted = c.functor_of-count.ensures.count in
    let test = c.loop-place-test.false in
    let le : count_of (arguments_of term) ≤ c.loop-place.place = omega arith in
    raised_end term c.loop-place.place (levels_of (assignment_of c.args.modes.now) term c.args.side) (environment c.args.self.now.levels)
    (environment c.loop-place.self.levels) le c.loop-place.invariant
