use Rattle.std.proofs.Common.{ℕ, ◌≡◌, Some, sym, subst}
use Rattle.std.specs.Prelude.{slice_get}
use Rattle.and_program.specs.Loaded.{nodes_at}
use Rattle.and_program.specs.Skeletons.{call}
use Rattle.and_cells.specs.Ranges.{NamedProgram}
use Rattle.and_guards.proofs.Nodes.{loaded_is, has_node, node_is}
use Rattle.and_determinacy.proofs.judging.node_of.Goals as goal

pub call_at-requires-clause-call : goal.call_at-requires-clause-call
call_at-requires-clause-call g c =
    let P = g.N.Naming.program in
    let goal = c.args.goal in
    let facts = loaded_is P c.args.loaded.now c.requires.program c.skeleton_is_of_the_program.ensures.skeleton
    c.skeleton_is_of_the_program.ensures.own_variables c.skeleton_is_of_the_program.ensures.few in
    subst (λ (Q : NamedProgram). (n : ℕ) × (slice_get (nodes_at Q.skeleton goal.clause.0).items goal.item ≡ Some (call n)))
    c.requires.program (has_node P facts c.args.cells.now goal c.requires.goal)

pub returns : goal.returns
returns g c =
    let P = g.N.Naming.program in
    let goal = c.args.goal in
    let facts = loaded_is P c.args.loaded.now c.requires.program c.skeleton_is_of_the_program.ensures.skeleton
    c.skeleton_is_of_the_program.ensures.own_variables c.skeleton_is_of_the_program.ensures.few in
    node_is P facts c.args.cells.now goal c.requires.goal c.call_at.result.0
    (subst (λ (Q : NamedProgram). slice_get (nodes_at Q.skeleton goal.clause.0).items goal.item ≡ Some (call c.call_at.result.0))
    (sym c.requires.program) c.call_at.ensures)
