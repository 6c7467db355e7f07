use Rattle.std.proofs.Common.{ℕ, List, ◌∙◌, sym, subst}
use Rattle.std.proofs.lemmas.Result.{on_ok_weaker}
use Rattle.and_model.specs.Terms.{Term}
use Rattle.and_model.specs.Programs.{Program}
use Rattle.and_program.specs.Items.{node_item}
use Rattle.and_program.specs.Loaded.{program_of, skeleton_of}
use Rattle.and_program.specs.Skeletons.{Shape, IsThere, item_of, node_term}
use Rattle.and_program.specs.declared.item.ItemNode.{ItemNode}
use Rattle.and_lint.specs.Bodies.{items_of, variables_of_item, numbers_in}
use Rattle.and_lint.specs.Held.{Gains}
use Rattle.and_lint.specs.Subterms.{terms_of}
use Rattle.std.proofs.Common.{◌∷◌, []}
use Rattle.and_lint.proofs.Growing.{lifted_gained, plain_gained}
use Rattle.and_lint.proofs.bodies.add_call.Goals as goal

pub returns-then-is_lifted : goal.returns-then-is_lifted
returns-then-is_lifted c = λ items variables told.
    let ss : List Shape = (skeleton_of c.args.loaded.now).nodes in
    let P : Program = program_of c.args.loaded.now in
    let t : Term = node_term ss c.args.goal.0 in
    let new = c.add_alternatives.new.body in
    on_ok_weaker c.add_alternatives.result
    (λ a. subst (λ (i : ItemNode). Gains ss c.args.body.now new (items_of P items (item_of ss (node_item i)))
    (variables_of_item P variables (item_of ss (node_item i)))) (sym c.requires.is)
    (lifted_gained ss P c.args.body.now new items variables t (sym c.is_lifted.ensures ∙ c.if-is_lifted.true) a))
    (c.add_alternatives.ensures items variables told)

pub add_item_itself-requires : goal.add_item_itself-requires
add_item_itself-requires c =
    subst (λ (i : ItemNode). (k : ℕ) × IsThere (skeleton_of c.args.loaded.now).nodes k (node_item i)) (sym c.requires.is) (0, c.requires.goal)

pub returns : goal.returns
returns c = λ items variables told.
    let ss : List Shape = (skeleton_of c.args.loaded.now).nodes in
    let P : Program = program_of c.args.loaded.now in
    let t : Term = node_term ss c.args.goal.0 in
    let old = c.args.body.now in
    let new = c.add_item_itself.new.body in
    on_ok_weaker c.add_item_itself.result
    (λ a. subst (λ (i : ItemNode). Gains ss old new (item_of ss (node_item i) ∷ []) (numbers_in (terms_of (item_of ss (node_item i))))
    → Gains ss old new (items_of P items (item_of ss (node_item i))) (variables_of_item P variables (item_of ss (node_item i)))) (sym c.requires.is)
    (λ b. plain_gained ss P old new items variables t (sym c.is_lifted.ensures ∙ c.if-is_lifted.false) b) a)
    c.add_item_itself.ensures
