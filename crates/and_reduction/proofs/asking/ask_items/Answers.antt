use Rattle.std.proofs.Common.{◌≡◌, List, get_or, subst, Contains}
use Rattle.std.proofs.lemmas.List.{get_or_default}
use Rattle.and_model.specs.Programs.{fail, Item}
use Rattle.and_program.specs.Loaded.{nodes_at}
use Rattle.and_program.specs.declared.item.ItemNode.TheVariants.{Call, Fail}
use Rattle.and_step_laws.specs.Asking.{CanBeAsked}
use Rattle.and_step_laws.proofs.AskedPairs.{nth_node, has_fail, one_asked}
use Rattle.and_branch_laws.proofs.Loading.{loaded_is}
use Rattle.and_step_laws.proofs.NewFrames.{item_can_be_asked}
use Rattle.and_unify.specs.Places.{sides}
use Rattle.and_reduction.proofs.Writing.{asks_through}
use Rattle.and_reduction.proofs.asking.ask_items.Goals as goal

pub ask_item-requires-clause-item : goal.ask_item-requires-clause-item
ask_item-requires-clause-item g c =
    let P = g.N.Naming.program in
    let clause = c.args._clause.0 in
    let items = c.args.items.now in
    let index = c.loop-item.item-index in
    let facts = loaded_is P c.args.loaded.now c.requires.program c.skeleton_is_of_the_program.ensures.skeleton
    c.skeleton_is_of_the_program.ensures.own_variables c.skeleton_is_of_the_program.ensures.few in
    subst (CanBeAsked P c.args.cells.now c.args.floor)
    (nth_node items (nodes_at P.skeleton clause).items index (Call (record { 0 = 0 })) c.requires.items.nodes c.loop-item-test.true)
    (item_can_be_asked P facts c.args.cells.now clause c.args.floor c.requires.clause c.requires.frame index)

pub returns-then-not-branch-clause-failing : goal.returns-then-not-branch-clause-failing
returns-then-not-branch-clause-failing g c = λ e.
    let P = g.N.Naming.program in
    let items = c.args.items.now in
    let index = c.loop-item.item-index in
    let fails : get_or items index (Call (record { 0 = 0 })) ≡ Fail =
    c.in_ok-ask_item.ensures.failing (let t = c.if-not-branch.true in cc) in
    subst (λ (xs : List Item). Contains xs fail) c.requires.items.body
    (has_fail P.skeleton.nodes items index (Call (record { 0 = 0 })) c.loop-item-test.true fails)

pub loop-item-preserved : goal.loop-item-preserved
loop-item-preserved g c =
    let P = g.N.Naming.program in
    let some = c.in_ok-ask_item.ensures.asked (let t = c.if-not-branch.false in cc) in
    let index = c.loop-item.item-index in
    let items = c.args.items.now in
    let low = c.loop-item-test.true in
    record {
      nodes = asks_through P c.args.floor (sides c.args.pairs.now) c.loop-item.pairs c.ask_item.new.pairs c.loop-item.invariant.nodes
          (c.in_ok-ask_item.ensures.nodes (let t = c.if-not-branch.false in cc));
      ready = some.ready;
      asks = one_asked P c.args.cells.now c.args.floor items index (get_or items index (Call (record { 0 = 0 }))) c.loop-item.pairs c.ask_item.new.pairs
          _ low (get_or_default items index (get_or items index (Call (record { 0 = 0 }))) (Call (record { 0 = 0 })) low) some c.loop-item.invariant.asks;
    }
