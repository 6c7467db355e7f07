use Rattle.std.proofs.Common.{ℕ, List, ◌∙◌, ◌++◌, ap}
use Rattle.std.specs.List.{flat_map}
use Rattle.std.proofs.lemmas.Result.{on_ok_weaker}
use Rattle.and_program.specs.Loaded.{skeleton_of}
use Rattle.and_program.specs.Skeletons.{Shape, node_term}
use Rattle.and_program.specs.declared.item.ItemNode.{ItemNode}
use Rattle.and_lint.specs.Bodies.{variable_for}
use Rattle.and_lint.proofs.Growing.{told_gained}
use Rattle.and_lint.proofs.bodies.add_alternative.Goals as goal

pub returns : goal.returns
returns c = λ items variables t.
    let ss : List Shape = (skeleton_of c.args.loaded.now).nodes in
    let f : ℕ → List ℕ = variable_for (node_term ss c.args.goal.0) in
    on_ok_weaker c.push_arguments.result
    (λ e. told_gained ss c.args.bodies.now items variables c.args.body.now _ c.args.no.0 f t
    (c.in_ok-extend_from_slice.ensures.items ∙ ap (λ (xs : List ItemNode). c.args.body.now.items.items ++ xs) c.items_at.ensures)
    (e ∙ ap (λ (vs : List ℕ). c.args.body.now.variables.items ++ flat_map f vs) c.variables_at.ensures)) c.push_arguments.ensures
