use Rattle.std.proofs.Common.{arith, ◌≡◌, ◌<◌, ◌≤◌, ◌^◌, Ok, refl, sym, ap, ◌∙◌, length}
use Rattle.and_program.specs.Loaded.{program_of}
use Rattle.and_gathering.specs.Gathering.{unmet}
use Rattle.and_gathering.specs.declared.gathering.Walk.{Walk}
use Rattle.and_gathering.proofs.Loops.{none_of}
use Rattle.and_gathering.proofs.Walking.{walk_goes_on, walk_ends, walk_shrinks}
use Rattle.and_gathering.proofs.gathering.goals_left.Goals as goal

pub loop-goal-smaller : goal.loop-goal-smaller
loop-goal-smaller c =
    let w = c.loop-goal.walk in
    let popped : Walk = record { stack = c.pop.new.self; left = w.left; links = w.links; found = w.found } in
    let new = c.meet.new.self in
    let short : length new.stack.items < 2 ^ 64 =
    let a = new.stack.ok.0 in let b = new.stack.ok.1 in let s = new.stack.small in omega (arith, a, b, s) in
    walk_shrinks (program_of c.args.loaded.now) w popped new c.in-Some.goal c.in-Some.ensures.items refl
    (c.in_ok-meet.ensures (ap (λ b. Ok b) c.if-not-branch.false)) short

pub loop-goal-preserved : goal.loop-goal-preserved
loop-goal-preserved c =
    let w = c.loop-goal.walk in
    let popped : Walk = record { stack = c.pop.new.self; left = w.left; links = w.links; found = w.found } in
    walk_goes_on (program_of c.args.loaded.now) c.args.goals.now (unmet c.args.links) w popped c.meet.new.self c.in-Some.goal c.loop-goal.invariant
    c.in-Some.ensures.items refl refl refl (c.in_ok-meet.ensures (ap (λ b. Ok b) c.if-not-branch.false))

pub returns-then-walk-all : goal.returns-then-walk-all
returns-then-walk-all c =
    let w = c.loop-goal.walk in
    let empty : length w.stack.items ≡ 0 = sym w.stack.ok.0 ∙ c.in_default.ensures.cases.0 in
    let few : length (unmet c.args.links) ≤ w.found =
    let l = c.len-all.ensures in let f = c.if-walk-all.true in omega (arith, l, f) in
    walk_ends (program_of c.args.loaded.now) c.args.goals.now (unmet c.args.links) w c.loop-goal.invariant (none_of w.stack.items empty) few
