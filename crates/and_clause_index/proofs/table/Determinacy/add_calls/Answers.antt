use Rattle.std.proofs.Common.{ℕ, ◌≡◌, ◌<◌, List, length, map, get_or, Some, sym, ap, ◌∙◌, inl, inr, arith}
use Rattle.std.specs.Prelude.{slice_get}
use Rattle.std.proofs.lemmas.Bool.{cases_lt}
use Rattle.std.proofs.lemmas.Option.{slice_get-get_or, get_or_from_slice_get, slice_get_within}
use Rattle.and_program.specs.Items.{node_item}
use Rattle.and_program.specs.Loaded.{skeleton_of}
use Rattle.and_program.specs.Skeletons.{NodeItem, call}
use Rattle.and_program.specs.declared.item.ItemNode.{ItemNode}
use Rattle.and_program.specs.declared.item.ItemNode.TheVariants.{Call}
use Rattle.and_clause_index.proofs.Entries.{call_there, item_read, item_in_map}
use Rattle.and_clause_index.proofs.table.Determinacy.add_calls.Goals as goal

pub add_item-requires-clause-node : goal.add_item-requires-clause-node
add_item-requires-clause-node c = λ node e.
    let items = c.items-item-items.result.now in
    let i = c.loop-item.item-index in
    let item : ItemNode = get_or items i (Call (record { 0 = 0 })) in
    let low : i < length items = omega arith in
    call_there (skeleton_of c.args.loaded.now).nodes 0 (map node_item items) i node c.items-item-items.ensures.there
    (item_in_map items i item (slice_get-get_or items i (Call (record { 0 = 0 })) low) ∙ ap (λ (x : NodeItem). Some x) e)

pub loop-item-preserved : goal.loop-item-preserved
loop-item-preserved c =
    let items = c.items-item-items.result.now in
    let i = c.loop-item.item-index in
    let here : ItemNode = get_or items i (Call (record { 0 = 0 })) in
    let old = c.loop-item.invariant in
    let new = c.in_ok-add_item.ensures in
    record {
      made = new.made;
      known = λ k item node low at e. elim (cases_lt k i) [
        | inl before ↦ new.stays node (old.known k item node before at e)
        | inr past ↦
            let same : k ≡ i = omega arith in
            let read : here ≡ item = ap (λ (j : ℕ). get_or items j (Call (record { 0 = 0 }))) (sym same)
            ∙ get_or_from_slice_get items k item (Call (record { 0 = 0 })) at in
            new.known node (ap node_item read ∙ e)
      ];
      stays = λ node known. new.stays node (old.stays node known);
    }

pub returns-clause-known : goal.returns-clause-known
returns-clause-known c = λ i node e.
    let items = c.items-item-items.result.now in
    let at = ap (λ (is : List NodeItem). slice_get is i) c.items-item-items.ensures.items ∙ e in
    let (item, there, is) = item_read items i (call node) at in
    let low : i < length items = slice_get_within items i item there in
    c.loop-item.invariant.known i item node (omega arith) there is
