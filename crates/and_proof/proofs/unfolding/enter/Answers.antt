use Rattle.std.proofs.Common.{ℕ, ◌≡◌, ◌+◌, ◌++◌, ◌∷◌, [], map, reverse, ap, sym, ◌∙◌, subst, arith}
use Rattle.and_model.specs.Programs.{clause_at, clause_weight}
use Rattle.and_laws.proofs.Deciding.{of_bounds}
use Rattle.and_cells.specs.Ranges.{NamedProgram}
use Rattle.and_model.specs.Stands.{term_of}
use Rattle.and_branch_laws.specs.Reducing.{body_goals}
use Rattle.and_branch_laws.proofs.Loading.{loaded_is}
use Rattle.and_reduction.specs.Items.{AreItemsOf, IsHeadOf}
use Rattle.and_proof.specs.Stacks.{at_depth}
use Rattle.and_proof.proofs.Replacing.{next_can, depth_fits, entered, reduced_dead}
use Rattle.and_proof.proofs.unfolding.enter.Goals as goal

pub take-requires-clause-settled : goal.take-requires-clause-settled
take-requires-clause-settled g c = let x = c.requires.enters.1 in let u = x.called.unfolded in let k = u.keeps in k.settled

pub node_of-call-requires-clause-goal : goal.node_of-call-requires-clause-goal
node_of-call-requires-clause-goal g c =
    let P = g.N.Naming.program in
    let facts = loaded_is P c.args.loaded.now c.requires.program c.skeleton_is_of_the_program.ensures.skeleton
    c.skeleton_is_of_the_program.ensures.own_variables c.skeleton_is_of_the_program.ensures.few in
    let (cs, x) = c.requires.enters in
    next_can P facts c.args.cells.now x.called.before cs c.args.goals.now.ahead.items c.args.next x.called.term x.called.unfolded
    x.called.ahead x.called.is_call

pub take-requires-clause-call : goal.take-requires-clause-call
take-requires-clause-call g c = c.node_of-call.ensures

pub take-requires-clause-goal : goal.take-requires-clause-goal
take-requires-clause-goal g c =
    let P = g.N.Naming.program in
    let facts = loaded_is P c.args.loaded.now c.requires.program c.skeleton_is_of_the_program.ensures.skeleton
    c.skeleton_is_of_the_program.ensures.own_variables c.skeleton_is_of_the_program.ensures.few in
    let (cs, x) = c.requires.enters in
    next_can P facts c.args.cells.now x.called.before cs c.args.goals.now.ahead.items c.args.next x.called.term x.called.unfolded
    x.called.ahead x.called.is_call

pub take-requires-clause-clause : goal.take-requires-clause-clause
take-requires-clause-clause g c =
    let P = g.N.Naming.program in
    let (cs, x) = c.requires.enters in
    (of_bounds P.program (term_of P.program c.args.next.goal) c.args.clause.0 x.of_it).1

pub take-requires-clause-weight : goal.take-requires-clause-weight
take-requires-clause-weight g c =
    c.weight-weight.ensures ∙ ap (λ (p : NamedProgram). clause_weight (clause_at p.program c.args.clause.0)) (sym c.requires.program)

pub take-requires-clause-head : goal.take-requires-clause-head
take-requires-clause-head g c =
    subst (λ (p : NamedProgram). IsHeadOf p c.args.clause.0 c.head-head.result.0) (sym c.requires.program)
    (c.head-head.ensures.node, c.head-head.ensures.there)

pub take-requires-clause-items : goal.take-requires-clause-items
take-requires-clause-items g c =
    subst (λ (p : NamedProgram). AreItemsOf p c.args.clause.0 c.items-items.result.now) (sym c.requires.program)
    (record { nodes = c.items-items.ensures.items; body = c.items-items.ensures.body })

pub take-requires-clause-fits : goal.take-requires-clause-fits
take-requires-clause-fits g c = let x = c.requires.enters.1 in x.fits

pub returns-in-NoSolution : goal.returns-in-NoSolution
returns-in-NoSolution g c = λ cs x rest has.
    let P = g.N.Naming.program in
    let facts = loaded_is P c.args.loaded.now c.requires.program c.skeleton_is_of_the_program.ensures.skeleton
    c.skeleton_is_of_the_program.ensures.own_variables c.skeleton_is_of_the_program.ensures.few in
    reduced_dead P facts c.args.cells.now x.called.before cs c.args.goals.now.ahead.items c.args.next x.called.term x.called.unfolded x.called.ahead
    x.called.is_call c.args.clause.0
    x.of_it x.fits rest (c.in_ok-take.ensures.unsolved (let t = c.in-NoSolution.is in cc)) has

pub returns-in_ok-push_body-in-Solved : goal.returns-in_ok-push_body-in-Solved
returns-in_ok-push_body-in-Solved g c = λ cs x.
    let P = g.N.Naming.program in
    let facts = loaded_is P c.args.loaded.now c.requires.program c.skeleton_is_of_the_program.ensures.skeleton
    c.skeleton_is_of_the_program.ensures.own_variables c.skeleton_is_of_the_program.ensures.few in
    let put = subst (λ (Q : NamedProgram). c.push_body.new.ahead.items ≡ c.args.goals.now.ahead.items
    ++ reverse (map (at_depth (c.args.next.depth + 1)) (body_goals c.args.clause.0 c.len-node.result [] 0 (clause_at Q.program c.args.clause.0).body)))
    (sym c.requires.program) c.in_ok-push_body-in-Solved.ensures in
    let at_row = subst (λ (n : ℕ). c.push_body.new.ahead.items ≡ c.args.goals.now.ahead.items
    ++ reverse (map (at_depth (c.args.next.depth + 1)) (body_goals c.args.clause.0 n [] 0 (clause_at P.program c.args.clause.0).body)))
    c.len-node.ensures.value put in
    entered P facts c.args.cells.now x.called.before cs c.args.goals.now.ahead.items c.args.next x.called.term x.called.unfolded x.called.ahead
    x.called.is_call c.args.clause.0
    x.of_it x.fits c.take.new.cells _ (c.in_ok-take.ensures.solved (let t = c.in-Solved.is in cc)) at_row (sym x.called.passed)
    (c.in_ok-push-in-Solved.ensures.items
    ∙ ap (λ l. l ++ record { call = c.args.next.goal; clause = c.args.clause; depth = c.args.next.depth } ∷ []) (sym x.called.taken))

pub overflow_add-next : goal.overflow_add-next
overflow_add-next g c =
    let P = g.N.Naming.program in
    let facts = loaded_is P c.args.loaded.now c.requires.program c.skeleton_is_of_the_program.ensures.skeleton
    c.skeleton_is_of_the_program.ensures.own_variables c.skeleton_is_of_the_program.ensures.few in
    let (cs, x) = c.requires.enters in
    let low = depth_fits P facts c.args.cells.now x.called.before cs c.args.goals.now.ahead.items c.args.next x.called.term x.called.unfolded
    x.called.ahead x.called.is_call in
    omega (arith, low)
