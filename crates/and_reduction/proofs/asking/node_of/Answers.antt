use Rattle.std.proofs.Common.{ℕ, ◌≡◌, Some, subst}
use Rattle.std.specs.Prelude.{slice_get}
use Rattle.and_program.specs.Loaded.{nodes_at}
use Rattle.and_program.specs.Skeletons.{call}
use Rattle.and_cells.specs.Ranges.{NamedProgram}
use Rattle.and_branch_laws.proofs.Nodes.{has_node, found_node}
use Rattle.and_branch_laws.proofs.Loading.{loaded_is}
use Rattle.and_reduction.proofs.asking.node_of.Goals as goal

pub call_at-requires-clause-call : goal.call_at-requires-clause-call
call_at-requires-clause-call g c =
    let P = g.N.Naming.program in
    let goal = c.args.goal in
    let facts = loaded_is P c.args.loaded.now c.requires.program c.skeleton_is_of_the_program.ensures.skeleton
    c.skeleton_is_of_the_program.ensures.own_variables c.skeleton_is_of_the_program.ensures.few in
    subst (λ (Q : NamedProgram). (n : ℕ) × (slice_get (nodes_at Q.skeleton goal.clause.0).items goal.item ≡ Some (call n)))
    c.requires.program
    (has_node P facts c.args.cells.now goal c.requires.goal)

pub returns : goal.returns
returns g c =
    found_node g.N.Naming.program c.args.loaded.now c.args.cells.now c.args.goal c.call_at.result.0 c.requires.program
    c.skeleton_is_of_the_program.ensures.skeleton c.skeleton_is_of_the_program.ensures.own_variables
    c.skeleton_is_of_the_program.ensures.few c.requires.goal c.call_at.ensures
