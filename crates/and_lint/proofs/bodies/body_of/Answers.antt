use Rattle.std.proofs.Common.{ℕ, ◌+◌, List, drop, get_or, ap, sym, subst}
use Rattle.std.specs.List.{flat_map}
use Rattle.and_model.specs.Programs.{Item, Program, clause_at}
use Rattle.and_program.specs.Items.{node_item}
use Rattle.and_program.specs.Loaded.{program_of, skeleton_of}
use Rattle.and_program.specs.Skeletons.{Shape, item_of}
use Rattle.and_program.specs.declared.item.ItemNode.{ItemNode}
use Rattle.and_program.specs.declared.item.ItemNode.TheVariants.{Call}
use Rattle.and_lint.specs.Bodies.{items_of, variables_of_item}
use Rattle.and_lint.specs.Held.{Nears, items_shown}
use Rattle.and_lint.proofs.Growing.{body_is, nears_end, nears_first, nears_on}
use Rattle.and_lint.proofs.Steps.{item_there, items_drop, items_end}
use Rattle.and_lint.proofs.bodies.body_of.Goals as goal

pub loop-item-init : goal.loop-item-init
loop-item-init c = λ items variables told.
    let ss : List Shape = (skeleton_of c.args.loaded.now).nodes in
    let P : Program = program_of c.args.loaded.now in
    let all : List Item = (clause_at P c.args.no.0).body in
    let f : Item → List Item = items_of P items in
    let g : Item → List ℕ = variables_of_item P variables in
    let b = c.new-body.result in
    subst (λ (xs : List Item). Nears ss b (flat_map f all) (flat_map g all) b (flat_map f xs) (flat_map g xs))
    (sym c.items-item-items.ensures.body) (nears_first ss b (flat_map f all) (flat_map g all))

pub add_item-requires : goal.add_item-requires
add_item-requires c =
    item_there (skeleton_of c.args.loaded.now).nodes 0 c.items-item-items.result.now c.loop-item.item-index (Call (record { 0 = 0 }))
    c.items-item-items.ensures.there c.loop-item-test.true

pub loop-item-preserved : goal.loop-item-preserved
loop-item-preserved c = λ items variables told.
    let ss : List Shape = (skeleton_of c.args.loaded.now).nodes in
    let P : Program = program_of c.args.loaded.now in
    let all : List Item = (clause_at P c.args.no.0).body in
    let f : Item → List Item = items_of P items in
    let g : Item → List ℕ = variables_of_item P variables in
    let xs : List ItemNode = c.items-item-items.result.now in
    let i : ℕ = c.loop-item.item-index in
    let item : Item = item_of ss (node_item (get_or xs i (Call (record { 0 = 0 })))) in
    let rest : List Item = items_shown ss (drop (i + 1) xs) in
    nears_on ss c.new-body.result c.loop-item.body c.add_item.new.body (flat_map f all) (f item) (flat_map f rest)
    (flat_map g all) (g item) (flat_map g rest) (flat_map f (items_shown ss (drop i xs))) (flat_map g (items_shown ss (drop i xs)))
    (c.loop-item.invariant items variables told)
    (ap (λ (ys : List Item). flat_map f ys) (items_drop ss xs i (Call (record { 0 = 0 })) c.loop-item-test.true))
    (ap (λ (ys : List Item). flat_map g ys) (items_drop ss xs i (Call (record { 0 = 0 })) c.loop-item-test.true))
    (c.in_ok-add_item.ensures items variables told)

pub returns : goal.returns
returns c = λ items variables told.
    let ss : List Shape = (skeleton_of c.args.loaded.now).nodes in
    let P : Program = program_of c.args.loaded.now in
    let all : List Item = (clause_at P c.args.no.0).body in
    let f : Item → List Item = items_of P items in
    let g : Item → List ℕ = variables_of_item P variables in
    let xs : List ItemNode = c.items-item-items.result.now in
    let i : ℕ = c.loop-item.item-index in
    let b = c.new-body.result in
    body_is ss b c.loop-item.body (flat_map f all) (flat_map g all) c.new-body.ensures.items c.new-body.ensures.variables
    (nears_end ss b c.loop-item.body (flat_map f all) (flat_map f (items_shown ss (drop i xs))) (flat_map g all)
    (flat_map g (items_shown ss (drop i xs))) (c.loop-item.invariant items variables told)
    (ap (λ (ys : List Item). flat_map f ys) (items_end ss xs i c.loop-item-test.false))
    (ap (λ (ys : List Item). flat_map g ys) (items_end ss xs i c.loop-item-test.false)))
