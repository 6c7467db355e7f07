use Rattle.std.proofs.Common.{◌∙◌, ◌+◌, ◌||◌, ℕ, List, ap, map, drop, get_or}
use Rattle.and_model.specs.Programs.{Item, Program, clause_at}
use Rattle.and_program.specs.Items.{node_item}
use Rattle.and_program.specs.Loaded.{program_of, skeleton_of}
use Rattle.and_program.specs.Skeletons.{Shape, item_of}
use Rattle.and_program.specs.declared.item.ItemNode.{ItemNode}
use Rattle.and_program.specs.declared.item.ItemNode.TheVariants.{Call}
use Rattle.and_lint.specs.Marked.{marked, some_calls}
use Rattle.and_lint.proofs.Marking.{all_called, grows_on, grows_same, one_more_called}
use Rattle.and_lint.proofs.Steps.{item_there, items_drop, items_end}
use Rattle.and_lint.proofs.reaching.Reached.reach_from.Goals as goal

pub loop-item-init : goal.loop-item-init
loop-item-init c =
    let P : Program = program_of c.args.loaded.now in (
      grows_same c.args.self.now.marks.items c.args.self.now.work.items,
      c.requires.even,
      λ d. ap (λ (xs : List Item). marked c.args.self.now.marks.items d || some_calls P xs d) c.items-item-items.ensures.body,
    )

pub reach_by_item-requires : goal.reach_by_item-requires
reach_by_item-requires c = record {
  item = item_there (skeleton_of c.args.loaded.now).nodes 0 c.items-item-items.result.now c.loop-item.item-index (Call (record { 0 = 0 }))
      c.items-item-items.ensures.there c.loop-item-test.true;
  long = c.loop-item.invariant.0.long ∙ c.requires.long;
  even = c.loop-item.invariant.1;
}

pub loop-item-preserved : goal.loop-item-preserved
loop-item-preserved c =
    let P : Program = program_of c.args.loaded.now in
    let ss : List Shape = (skeleton_of c.args.loaded.now).nodes in
    let items : List ItemNode = c.items-item-items.result.now in
    let i : ℕ = c.loop-item.item-index in
    let item : Item = item_of ss (node_item (get_or items i (Call (record { 0 = 0 })))) in (
      grows_on c.args.self.now.marks.items c.loop-item.self.marks.items c.reach_by_item.new.self.marks.items c.args.self.now.work.items
          c.loop-item.self.work.items
          c.reach_by_item.new.self.work.items c.loop-item.invariant.0 c.in_ok-reach_by_item.ensures.grows,
      c.in_ok-reach_by_item.ensures.even,
      one_more_called P c.args.self.now.marks.items c.loop-item.self.marks.items c.reach_by_item.new.self.marks.items (clause_at P c.args.no.0).body
          (map (item_of ss) (map node_item (drop i items))) (map (item_of ss) (map node_item (drop (i + 1) items))) item
          (items_drop ss items i (Call (record { 0 = 0 })) c.loop-item-test.true) c.loop-item.invariant.2 c.in_ok-reach_by_item.ensures.marked,
    )

pub returns : goal.returns
returns c =
    let P : Program = program_of c.args.loaded.now in
    let ss : List Shape = (skeleton_of c.args.loaded.now).nodes in
    record {
      marked = all_called P c.args.self.now.marks.items c.loop-item.self.marks.items (clause_at P c.args.no.0).body
          (map (item_of ss) (map node_item (drop c.loop-item.item-index c.items-item-items.result.now)))
          (items_end ss c.items-item-items.result.now c.loop-item.item-index c.loop-item-test.false) c.loop-item.invariant.2;
      grows = c.loop-item.invariant.0;
      even = c.loop-item.invariant.1;
    }
