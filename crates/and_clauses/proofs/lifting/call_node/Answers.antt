use Rattle.std.proofs.Common.{◌≡◌, List, Some, slice_get, refl, inr, subst}
use Rattle.and_model.specs.declared.numbers.NodeNo.{NodeNo}
use Rattle.and_program.specs.Nodes.{shapes_of}
use Rattle.and_program.specs.Skeletons
use Rattle.and_program.specs.declared.node.Node.{Node}
use Rattle.and_clauses.specs.Copies.{numbers_in}
use Rattle.and_clauses.proofs.lifting.call_node.Goals as goal

pub returns-in-Some-clause-put : goal.returns-in-Some-clause-put
returns-in-Some-clause-put c =
    inr (
      refl,
      subst (λ (ns : List NodeNo). slice_get (shapes_of c.args.nodes.now.items) c.in-Some.node.0 ≡ Some (Skeletons.compound c.args.name.0 (numbers_in ns)))
          c.as_slice-2.ensures.value
          (subst (λ (ns : List Node). slice_get (shapes_of ns) c.in-Some.node.0 ≡ Some (Skeletons.compound c.args.name.0 (numbers_in c.as_slice-2.result.now)))
          c.as_slice.ensures.value c.in-Some.ensures),
    )
