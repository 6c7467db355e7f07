use Rattle.std.proofs.Common.{◌≡◌, ◌≤◌, rules, ◌++◌, [], map, reverse, ap, sym, ◌∙◌, subst}
use Rattle.and_model.specs.Programs.{clause_at, clause_weight}
use Rattle.and_model.specs.declared.limits.TheConstants.{MAX_LIMIT}
use Rattle.and_cells.specs.Ranges.{NamedProgram}
use Rattle.and_branch_laws.specs.Reducing.{body_goals}
use Rattle.and_branch_laws.proofs.Loading.{loaded_is}
use Rattle.and_proof.specs.Stacks.{at_depth}
use Rattle.and_proof.proofs.Stepped.{begun, begun_dead}
use Rattle.and_proof.proofs.unfolding.begin_query.Goals as goal

pub returns-in-NoSolution-clause-none : goal.returns-in-NoSolution-clause-none
returns-in-NoSolution-clause-none g c = λ e cs has.
    let P = g.N.Naming.program in
    let facts = loaded_is P c.args.loaded.now c.requires.program c.skeleton_is_of_the_program.ensures.skeleton
    c.skeleton_is_of_the_program.ensures.own_variables c.skeleton_is_of_the_program.ensures.few in
    begun_dead P facts (c.in_ok-begin.ensures.unsolved (let t = c.in-NoSolution.is in cc)) cs has

pub returns-in_ok-push_body-in-Solved-clause-begun : goal.returns-in_ok-push_body-in-Solved-clause-begun
returns-in_ok-push_body-in-Solved-clause-begun g c = λ e.
    let P = g.N.Naming.program in
    let facts = loaded_is P c.args.loaded.now c.requires.program c.skeleton_is_of_the_program.ensures.skeleton
    c.skeleton_is_of_the_program.ensures.own_variables c.skeleton_is_of_the_program.ensures.few in
    let put : c.push_body.new.ahead.items ≡ c.args.goals.now.ahead.items ++ reverse (map (at_depth 1) (body_goals 0 0 [] 0 (clause_at P.program 0).body)) =
    subst (λ (Q : NamedProgram). c.push_body.new.ahead.items ≡ c.args.goals.now.ahead.items
    ++ reverse (map (at_depth 1) (body_goals 0 0 [] 0 (clause_at Q.program 0).body))) (sym c.requires.program) c.in_ok-push_body-in-Solved.ensures in
    let fits : clause_weight P.program.query ≤ MAX_LIMIT = search rules in
    begun P facts c.begin.new.cells _ fits (c.in_ok-begin.ensures.solved (let t = c.in-Solved.is in cc))
    (put ∙ ap (λ l. l ++ reverse (map (at_depth 1) (body_goals 0 0 [] 0 (clause_at P.program 0).body))) c.requires.no_goals.0)
    c.requires.no_goals.1 c.requires.no_goals.2
