use Rattle.std.proofs.Common.{◌+◌, ◌≤◌, ◌++◌, List, refl, ap, sym, ◌∙◌, subst, Ok}
use Rattle.and_model.specs.declared.goal.Reduction.{Reduction}
use Rattle.and_model.specs.declared.limits.TheConstants.{MAX_LIMIT}
use Rattle.and_cells.specs.Ranges.{NamedProgram}
use Rattle.and_code.specs.Visiting.{HaveClauses}
use Rattle.and_code.specs.Written.{all_written}
use Rattle.and_branch_parts.specs.Weights.{weights_of}
use Rattle.and_branch_parts.proofs.LoadedPrograms.{is_loaded}
use Rattle.and_branch_parts.proofs.PassedGoals.{given_left, given_right, given_watched}
use Rattle.and_branch.proofs.RebuiltBranches.{grown_fits, made_named, rebuilt}
use Rattle.and_branch.proofs.branch.Branch.rebuild.Goals as goal

pub add_all-requires-clause-clauses : goal.add_all-requires-clause-clauses
add_all-requires-clause-clauses g c =
    let (t, u, x) = c.requires.worked in
    subst (λ (P : NamedProgram). HaveClauses P.program c.args.work.made) c.requires.program
    (made_named g.N.Naming.program c.args.parts.now c.args.work t u x)

pub add_all-requires-clause-fits : goal.add_all-requires-clause-fits
add_all-requires-clause-fits g c =
    let (t, u, x) = c.requires.worked in
    subst (λ (P : NamedProgram). c.args.parts.now.used + weights_of P.program (all_written c.args.work.made) ≤ MAX_LIMIT)
    c.requires.program (grown_fits g.N.Naming.program c.args.parts.now c.args.work t u x)

pub is_dead-requires-clause-written : goal.is_dead-requires-clause-written
is_dead-requires-clause-written g c = λ e. let (t, u, x) = c.requires.worked in (x.left e).written

pub returns-clause-stands : goal.returns-clause-stands
returns-clause-stands g c = λ t u x.
    let P = g.N.Naming.program in
    let says = c.skeleton_is_of_the_program.ensures in
    let loaded = is_loaded P c.args.loaded.now c.requires.program says.skeleton says.own_variables says.few in
    let used = c.in_ok-used.ensures.weight
    ∙ ap (λ (Q : NamedProgram). c.args.parts.now.used + weights_of Q.program (all_written c.args.work.made)) (sym c.requires.program) in
    let are = c.in_ok-goals.ensures in
    let reductions = c.in_ok-used.ensures.reductions
    ∙ ap (λ (l : List Reduction). all_written l ++ all_written c.args.work.made) c.in_ok-reductions.ensures in
    rebuilt P c.args.parts.now c.args.work t u x loaded _ c.in_ok-key.ensures refl reductions used
    (given_left c.in_ok-goals.goals _ are ∙ c.deref.ensures.value) (given_right c.in_ok-goals.goals _ are)
    (given_watched c.in_ok-goals.goals _ are) (λ e. c.in_ok-is_failed.ensures.dead (ap Ok e)) (λ e. c.in_ok-is_failed.ensures.live (ap Ok e))
