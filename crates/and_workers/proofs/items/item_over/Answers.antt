use Rattle.std.proofs.Common.{refl, sym, ap, ◌∙◌, arith, List}
use Rattle.std.proofs.lemmas.Option.{slice_get-map}
use Rattle.std.specs.Prelude.{slice_get}
use Rattle.std.specs.Option.{option_map}
use Rattle.and_program.specs.Items.{node_item}
use Rattle.and_program.specs.Skeletons.{NodeItem}
use Rattle.and_cells.specs.Parts.{named}
use Rattle.and_branch_laws.proofs.Loading.{loaded_is}
use Rattle.and_workers.specs.Items.{IsItemOver}
use Rattle.and_workers.proofs.Placed.{is_item_over, copied_is}
use Rattle.and_workers.proofs.items.item_over.Goals as goal

pub returns : goal.returns
returns c =
    let P = named c.args.loaded.now in
    let g = c.args.goal in
    let s = c.skeleton_is_of_the_program.ensures in
    let facts = loaded_is P c.args.loaded.now refl s.skeleton s.own_variables s.few in
    copied_is c.items.result.now g.item c.get.result c.copied.result c.get.ensures.lookup.0 c.get.ensures.lookup.1 c.copied.ensures
    (λ item. IsItemOver P c.args.words g (node_item item))
    (λ x at. is_item_over P facts c.args.words g (omega (arith, c.clause_count.ensures.count))
    (let w = c.weight-weight.ensures in omega arith) c.requires (node_item x)
    (ap (λ (xs : List NodeItem). slice_get xs g.item) (sym c.items.ensures.items) ∙ slice_get-map node_item c.items.result.now g.item
    ∙ ap (option_map node_item) at))
