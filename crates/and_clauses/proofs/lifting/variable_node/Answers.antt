use Rattle.std.proofs.Common.{◌≡◌, List, Some, slice_get, refl, inr, subst}
use Rattle.and_program.specs.Nodes.{shapes_of}
use Rattle.and_program.specs.Skeletons
use Rattle.and_program.specs.declared.node.Node.{Node}
use Rattle.and_clauses.proofs.lifting.variable_node.Goals as goal

pub returns-in-Some-clause-put : goal.returns-in-Some-clause-put
returns-in-Some-clause-put c =
    inr (
      refl,
      subst (λ (ns : List Node). slice_get (shapes_of ns) c.in-Some.node.0 ≡ Some (Skeletons.variable c.args.variable)) c.as_slice.ensures.value
          c.in-Some.ensures,
    )
