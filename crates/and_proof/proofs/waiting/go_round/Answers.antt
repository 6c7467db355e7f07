use Rattle.std.proofs.Common.{◌∷◌, [], List, length, refl, ap, sym, ◌∙◌, subst, arith}
use Rattle.std.proofs.lemmas.List.{length-append}
use Rattle.and_model.specs.declared.reference.Ref.{Ref}
use Rattle.and_branch_laws.proofs.Loading.{loaded_is}
use Rattle.and_proof.specs.Stacks.{in_order, goals_before}
use Rattle.and_proof.proofs.Rounds.{RoundSoFar, begun, next_can, waited, ran, none_holds, ended}
use Rattle.and_proof.proofs.WholeRuns.{whole_settled}
use Rattle.and_proof.proofs.waiting.go_round.Goals as goal

pub goals-init : goal.goals-init
goals-init g c = begun g.N.Naming.program c.args.cells.now c.args.waiting.now c.args.way c.requires.start

pub run-requires-clause-settled : goal.run-requires-clause-settled
run-requires-clause-settled g c =
    let (rs, t, x) = c.requires.whole in
    let s = c.goals.invariant in
    whole_settled g.N.Naming.program rs c.goals.cells (in_order c.goals.waiting) t (s.whole rs t x)

pub run-requires-clause-short : goal.run-requires-clause-short
run-requires-clause-short g c =
    let (rs, t, x) = c.requires.whole in
    let s = c.goals.invariant in
    let y = s.whole rs t x in y.short

pub run-requires-clause-goal : goal.run-requires-clause-goal
run-requires-clause-goal g c =
    let P = g.N.Naming.program in
    let k = c.skeleton_is_of_the_program.ensures in
    let facts = loaded_is P c.args.loaded.now c.requires.program k.skeleton k.own_variables k.few in
    let (rs, t, x) = c.requires.whole in
    next_can P c.args.cells.now c.goals.cells c.args.waiting.now c.goals.waiting c.args.way c.goals.round c.goals.invariant c.take.new.self
    c.in-Some.goal c.in-Some.ensures.some c.take.ensures.behind rs t facts x

pub goals-preserved-in-Continue-branch-3 : goal.goals-preserved-in-Continue-branch-3
goals-preserved-in-Continue-branch-3 g c =
    let P = g.N.Naming.program in
    subst (λ (row : List Ref). RoundSoFar P c.args.cells.now row c.args.waiting.now c.put.new.self c.args.way c.goals.round)
    (sym (c.in_ok-run.ensures.unchanged c.in-Waits.cell (let t = c.in-Waits.is in cc)))
    (waited P c.args.cells.now c.goals.cells c.args.waiting.now c.goals.waiting c.args.way c.goals.round c.goals.invariant c.take.new.self
    c.in-Some.goal c.in-Some.ensures.some c.take.ensures.behind c.put.new.self c.in_ok-put-in-Waits.ensures.put c.put.ensures.before
    (c.in_ok-run.ensures.waits c.in-Waits.cell (let t = c.in-Waits.is in cc)))

pub goals-smaller-in-Continue-branch-3 : goal.goals-smaller-in-Continue-branch-3
goals-smaller-in-Continue-branch-3 g c =
    let before = ap length c.in-Some.ensures.some ∙ length-append (goals_before c.args.way c.take.new.self) (c.in-Some.goal ∷ []) in
    let after = ap length c.put.ensures.before in omega (arith, before, after)

pub goals-preserved : goal.goals-preserved
goals-preserved g c =
    let P = g.N.Naming.program in
    let k = c.skeleton_is_of_the_program.ensures in
    let facts = loaded_is P c.args.loaded.now c.requires.program k.skeleton k.own_variables k.few in
    let has_run = c.in_ok-run.ensures.done (let t = c.in-Done.is in cc) in
    ran P c.args.cells.now c.goals.cells c.args.waiting.now c.goals.waiting c.args.way c.goals.round c.goals.invariant c.take.new.self
    c.in-Some.goal c.in-Some.ensures.some c.take.ensures.behind facts c.run.new.cells has_run

pub goals-smaller : goal.goals-smaller
goals-smaller g c =
    let before = ap length c.in-Some.ensures.some ∙ length-append (goals_before c.args.way c.take.new.self) (c.in-Some.goal ∷ []) in
    omega (arith, before)

pub returns-in-False : goal.returns-in-False
returns-in-False g c =
    let P = g.N.Naming.program in
    let k = c.skeleton_is_of_the_program.ensures in
    let facts = loaded_is P c.args.loaded.now c.requires.program k.skeleton k.own_variables k.few in
    let cannot = c.in_ok-run.ensures.fails (let t = c.in-False.is in cc) in
    none_holds P c.args.cells.now c.goals.cells c.args.waiting.now c.goals.waiting c.args.way c.goals.round c.goals.invariant c.take.new.self
    c.in-Some.goal c.in-Some.ensures.some c.take.ensures.behind facts cannot

pub returns-in_default : goal.returns-in_default
returns-in_default g c =
    let P = g.N.Naming.program in
    ended P c.args.cells.now c.goals.cells c.args.waiting.now c.goals.waiting c.args.way c.goals.round c.goals.invariant c.take.new.self
    (let none_is = c.in_default.ensures.none refl in none_is.0) (let none_is = c.in_default.ensures.none refl in none_is.1) c.take.ensures.behind
