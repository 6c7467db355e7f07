use Rattle.std.proofs.Common.{◌∙◌, ◌+◌, ℕ, List, ap, map, drop, get_or}
use Rattle.std.specs.List.{flat_map}
use Rattle.and_model.specs.Lines.{Bytes}
use Rattle.and_model.specs.Programs.{Clause, Item, clause_at}
use Rattle.and_program.specs.Items.{node_item}
use Rattle.and_program.specs.Loaded.{program_of, skeleton_of}
use Rattle.and_program.specs.Skeletons.{Shape, item_of}
use Rattle.and_program.specs.declared.item.ItemNode.{ItemNode}
use Rattle.and_program.specs.declared.item.ItemNode.TheVariants.{Call}
use Rattle.and_lint.specs.Held.{items_shown}
use Rattle.and_lint.proofs.Growing.{item_of_these}
use Rattle.and_lint.proofs.Steps.{items_drop, items_end}
use Rattle.std.proofs.Common.{refl}
use Rattle.and_lint.specs.Findings.{left_lines_of}
use Rattle.and_lint.proofs.Adding.{comes_end, comes_first, comes_more}
use Rattle.and_lint.proofs.leaving.add_left_terms.Goals as goal

pub look_at_item-requires : goal.look_at_item-requires
look_at_item-requires c = record {
  there = c.requires.there;
  item = item_of_these (skeleton_of c.args.loaded.now).nodes c.args.items.now c.loop-item.item-index (Call (record { 0 = 0 }))
      c.requires.items c.loop-item-test.true;
}

pub loop-item-init : goal.loop-item-init
loop-item-init c = comes_first c.args.findings.now _

pub loop-item-preserved : goal.loop-item-preserved
loop-item-preserved c =
    let ss : List Shape = (skeleton_of c.args.loaded.now).nodes in
    let k : Clause = clause_at (program_of c.args.loaded.now) c.args.no.0 in
    let f : Item → List Bytes = left_lines_of (program_of c.args.loaded.now) k in
    let all : List Item → List Bytes = λ xs. flat_map f xs in
    let items : List ItemNode = c.args.items.now in
    let i : ℕ = c.loop-item.item-index in
    let item : Item = item_of ss (node_item (get_or items i (Call (record { 0 = 0 })))) in
    let rest : List Item = map (item_of ss) (map node_item (drop (i + 1) items)) in
    comes_more c.args.findings.now c.loop-item.findings c.look_at_item.new.findings (all (items_shown ss c.args.items.now))
    (all (map (item_of ss) (map node_item (drop i items))))
    (f item) (all rest) c.loop-item.invariant
    (ap (λ (xs : List Item). all xs) (items_drop ss items i (Call (record { 0 = 0 })) c.loop-item-test.true) ∙ refl)
    c.in_ok-look_at_item.ensures

pub returns : goal.returns
returns c =
    let ss : List Shape = (skeleton_of c.args.loaded.now).nodes in
    let k : Clause = clause_at (program_of c.args.loaded.now) c.args.no.0 in
    let f : Item → List Bytes = left_lines_of (program_of c.args.loaded.now) k in
    let all : List Item → List Bytes = λ xs. flat_map f xs in
    comes_end c.args.findings.now c.loop-item.findings (all (items_shown ss c.args.items.now))
    (all (map (item_of ss) (map node_item (drop c.loop-item.item-index c.args.items.now)))) c.loop-item.invariant
    (ap (λ (xs : List Item). all xs) (items_end ss c.args.items.now c.loop-item.item-index c.loop-item-test.false))
