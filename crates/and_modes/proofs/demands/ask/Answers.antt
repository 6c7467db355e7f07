use Rattle.std.proofs.Common.{ℕ, ◌<◌, ◌≤◌, ◌++◌, ◌∙◌, ap, arith}
use Rattle.and_program.specs.Loaded.{skeleton_of}
use Rattle.and_program.specs.Skeletons.{node_term}
use Rattle.and_model.specs.Terms.{Term}
use Rattle.and_modes.specs.Modes.{name_of, arguments_of, count_of}
use Rattle.and_modes.specs.Asked.{asked_of}
use Rattle.and_modes.specs.Known.{environment}
use Rattle.and_modes.specs.declared.demands.Demand.{Demand}
use Rattle.and_modes.specs.declared.level.Level.{Level}
use Rattle.and_modes.proofs.Knowing.{asked_next, asked_end}
use Rattle.and_modes.proofs.demands.ask.Goals as goal

pub loop-number-preserved : goal.loop-number-preserved
loop-number-preserved c =
    let nodes = (skeleton_of c.args.loaded.now).nodes in
    let term : Term = node_term nodes c.args.goal.0 in
    let place : ℕ = c.loop-number.number in
    let e = environment c.args.known.now.levels in
    let counted = c.functor_of-count.ensures.count in
    let test = c.loop-number-test.true in
    let lt : place < count_of (arguments_of term) = omega arith in
    let made : ℕ → ℕ → Level → Demand =
    λ n k l. record { place = record { name = record { 0 = n }; arity = k; number = place }; side = c.args.side; level = l } in
    asked_next term (node_term nodes c.argument.result.0) place (name_of term) (count_of (arguments_of term)) c.args.side e
    (c.args.demands.now.items ++ asked_of e c.args.side term) c.loop-number.demands.items c.push.new.self.items
    (made c.functor_of-count.result.name.0 c.functor_of-count.result.count c.in_ok-level.level) lt c.loop-number.invariant c.argument.ensures.term
    (ap (λ (n : ℕ). made n c.functor_of-count.result.count c.in_ok-level.level) c.functor_of-count.ensures.name
    ∙ ap (λ (k : ℕ). made (name_of term) k c.in_ok-level.level) counted
    ∙ ap (λ (l : Level). made (name_of term) (count_of (arguments_of term)) l) c.in_ok-level.ensures)
    c.in_ok-push.ensures.items

pub returns : goal.returns
returns c =
    let nodes = (skeleton_of c.args.loaded.now).nodes in
    let term : Term = node_term nodes c.args.goal.0 in
    let e = environment c.args.known.now.levels in
    let counted = c.functor_of-count.ensures.count in
    let test = c.loop-number-test.false in
    let le : count_of (arguments_of term) ≤ c.loop-number.number = omega arith in
    asked_end term c.loop-number.number (name_of term) (count_of (arguments_of term)) c.args.side e (c.args.demands.now.items ++ asked_of e c.args.side term)
    c.loop-number.demands.items le c.loop-number.invariant
