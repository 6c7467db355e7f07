use Rattle.std.proofs.Common.{ℕ, ◌+◌, List, ◌≡◌, ◌++◌, ◌∙◌, sym, ap, get_or, drop, map}
use Rattle.std.proofs.lemmas.List.{append-nil}
use Rattle.and_model.specs.Terms.{Term}
use Rattle.and_model.specs.Programs.{Clause, Item, clause_at}
use Rattle.and_program.specs.Loaded.{skeleton_of, program_of}
use Rattle.and_program.specs.Skeletons.{Shape, node_term, item_of}
use Rattle.and_program.specs.Items.{node_item}
use Rattle.and_program.specs.declared.item.ItemNode.{ItemNode}
use Rattle.and_program.specs.declared.item.ItemNode.TheVariants.{Call}
use Rattle.and_modes.specs.Modes.{Assignment, Environment, levels_of, arguments_of, all_raised, at_entry, after_items}
use Rattle.and_modes.specs.Asked.{asked_of, asked_along}
use Rattle.and_modes.specs.Kept.{assignment_of}
use Rattle.and_modes.specs.Known.{environment}
use Rattle.and_modes.specs.declared.demands.Demand.{Demand}
use Rattle.and_modes.specs.declared.level.Level.TheVariants.{Any}
use Rattle.and_modes.specs.declared.level.Side.TheVariants.{Called, Succeeded}
use Rattle.and_modes.proofs.Walking.{item_there}
use Rattle.and_modes.proofs.Knowing.{item_asked, item_past, items_drop, items_end}
use Rattle.and_modes.proofs.demands.demands_in.Goals as goal

pub loop-item-init : goal.loop-item-init
loop-item-init c =
    let k : Clause = clause_at (program_of c.args.loaded.now) c.args.no.0 in
    let m : Assignment = assignment_of c.args.modes.now in
    let now : Environment = environment c.raise_arguments.new.self.levels in
    let t : Term = node_term (skeleton_of c.args.loaded.now).nodes c.head-head.result.0 in
    let rows : List Item = map (item_of (skeleton_of c.args.loaded.now).nodes) (map node_item c.items-item-items.result.now) in
    let entry : now ≡ at_entry m k =
    c.in_ok-raise_arguments.ensures
    ∙ ap (λ (e : Environment). all_raised e (levels_of m t Called) 0 (arguments_of t)) c.nothing-known.ensures
    ∙ ap (λ (u : Term). all_raised (λ v. Any) (levels_of m u Called) 0 (arguments_of u)) c.head-head.ensures.term in (
      ap (λ (e : Environment). asked_along m e k.body) (sym entry)
          ∙ ap (λ (items : List Item). asked_along m now items) (sym c.items-item-items.ensures.body)
          ∙ ap (λ (ds : List Demand). ds ++ asked_along m now rows) (sym c.new-demands.ensures.items),
      ap (λ (e : Environment). after_items m e k.body) (sym entry)
          ∙ ap (λ (items : List Item). after_items m now items) (sym c.items-item-items.ensures.body),
    )

pub ask_by_item-requires : goal.ask_by_item-requires
ask_by_item-requires c =
    item_there (skeleton_of c.args.loaded.now).nodes 0 c.items-item-items.result.now c.loop-item.item-index (Call (record { 0 = 0 }))
    c.items-item-items.ensures.there c.loop-item-test.true

pub pass-requires : goal.pass-requires
pass-requires c =
    item_there (skeleton_of c.args.loaded.now).nodes 0 c.items-item-items.result.now c.loop-item.item-index (Call (record { 0 = 0 }))
    c.items-item-items.ensures.there c.loop-item-test.true

pub loop-item-preserved : goal.loop-item-preserved
loop-item-preserved c =
    let k : Clause = clause_at (program_of c.args.loaded.now) c.args.no.0 in
    let m : Assignment = assignment_of c.args.modes.now in
    let nodes : List Shape = (skeleton_of c.args.loaded.now).nodes in
    let items : List ItemNode = c.items-item-items.result.now in
    let i : ℕ = c.loop-item.item-index in
    let item : Item = item_of nodes (node_item (get_or items i (Call (record { 0 = 0 })))) in
    let rest : List Item = map (item_of nodes) (map node_item (drop (i + 1) items)) in
    let now : Environment = environment c.loop-item.known.levels in
    let new : Environment = environment c.pass.new.self.levels in
    let ds : List Demand = c.loop-item.demands.items in
    let split = items_drop nodes items i (Call (record { 0 = 0 })) c.loop-item-test.true in (
      item_asked m now new item rest (asked_along m (at_entry m k) k.body) ds c.ask_by_item.new.demands.items
          (c.loop-item.invariant.0 ∙ ap (λ (xs : List Item). ds ++ asked_along m now xs) split) c.in_ok-ask_by_item.ensures c.in_ok-pass.ensures,
      item_past m now new item rest (after_items m (at_entry m k) k.body)
          (c.loop-item.invariant.1 ∙ ap (λ (xs : List Item). after_items m now xs) split) c.in_ok-pass.ensures,
    )

pub returns : goal.returns
returns c =
    let k : Clause = clause_at (program_of c.args.loaded.now) c.args.no.0 in
    let m : Assignment = assignment_of c.args.modes.now in
    let nodes : List Shape = (skeleton_of c.args.loaded.now).nodes in
    let items : List ItemNode = c.items-item-items.result.now in
    let t : Term = node_term nodes c.head-head.result.0 in
    let now : Environment = environment c.loop-item.known.levels in
    let ds : List Demand = c.loop-item.demands.items in
    let all : List Demand = asked_along m (at_entry m k) k.body in
    let last : Environment = after_items m (at_entry m k) k.body in
    let end = items_end nodes items c.loop-item.item-index c.loop-item-test.false in
    let asked : all ≡ ds = c.loop-item.invariant.0 ∙ ap (λ (xs : List Item). ds ++ asked_along m now xs) end ∙ append-nil ds in
    let past : last ≡ now = c.loop-item.invariant.1 ∙ ap (λ (xs : List Item). after_items m now xs) end in
    c.in_ok-ask.ensures
    ∙ ap (λ (es : List Demand). es ++ asked_of now Succeeded t) (sym asked)
    ∙ ap (λ (e : Environment). all ++ asked_of e Succeeded t) (sym past)
    ∙ ap (λ (u : Term). all ++ asked_of last Succeeded u) c.head-head.ensures.term
