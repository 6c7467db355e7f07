use Rattle.std.proofs.Common.{ℕ, Bool, List, ◌≡◌, ◌≤◌, ◌++◌, ◌∙◌, sym, ap, subst, get_or, length, true≢false}
use Rattle.and_model.specs.Terms.{Term}
use Rattle.and_model.specs.Programs.{Program, Clause, Item, clause_at, fail}
use Rattle.and_program.specs.Loaded.{skeleton_of, program_of}
use Rattle.and_program.specs.Skeletons.{Shape, node_term}
use Rattle.and_program.specs.declared.item.ItemNode.TheVariants.{Call}
use Rattle.and_modes.specs.Modes.{Assignment, Environment, levels_of, arguments_of, all_raised, after_item}
use Rattle.and_modes.specs.Asked.{asked_of, asked_by_item, AllMet}
use Rattle.and_modes.specs.Kept.{assignment_of}
use Rattle.and_modes.specs.Known.{environment}
use Rattle.and_modes.specs.Looked.{FellOr}
use Rattle.and_modes.specs.declared.demands.Demand.{Demand}
use Rattle.and_modes.specs.declared.level.Level.TheVariants.{Any}
use Rattle.and_modes.specs.declared.level.Side.TheVariants.{Called, Succeeded}
use Rattle.and_modes.proofs.Walking.{item_there}
use Rattle.and_modes.proofs.Firsts.{item_here, items_past}
use Rattle.and_modes.proofs.Along.{AtItem, along_none, along_next, along_all, fell_alone}
use Rattle.and_modes.proofs.inference.look_along.Goals.{then-branch, else-branch, then-branch-2, else-branch-2}
use Rattle.and_modes.proofs.inference.look_along.Goals as goal

pub loop-item-init : goal.loop-item-init
loop-item-init c =
    let P : Program = program_of c.args.loaded.now in
    let k : Clause = clause_at P c.args.no.0 in
    let m : Assignment = assignment_of c.args.modes.now in
    let t : Term = node_term (skeleton_of c.args.loaded.now).nodes c.head-head.result.0 in
    along_none P c.args.no.0 m (environment c.raise_arguments.new.self.levels) c.requires
    (c.in_ok-raise_arguments.ensures
    ∙ ap (λ (e : Environment). all_raised e (levels_of m t Called) 0 (arguments_of t)) c.nothing-known.ensures
    ∙ ap (λ (u : Term). all_raised (λ v. Any) (levels_of m u Called) 0 (arguments_of u)) c.head-head.ensures.term)

pub look_at_item-requires : goal.look_at_item-requires
look_at_item-requires c =
    item_there (skeleton_of c.args.loaded.now).nodes 0 c.items-item-items.result.now c.loop-item.item-index (Call (record { 0 = 0 }))
    c.items-item-items.ensures.there c.loop-item-test.true

pub pass-requires : goal.pass-requires
pass-requires c =
    item_there (skeleton_of c.args.loaded.now).nodes 0 c.items-item-items.result.now c.loop-item.item-index (Call (record { 0 = 0 }))
    c.items-item-items.ensures.there c.loop-item-test.true

pub loop-item-preserved : goal.loop-item-preserved
loop-item-preserved c =
    let P : Program = program_of c.args.loaded.now in
    let nodes : List Shape = (skeleton_of c.args.loaded.now).nodes in
    let i : ℕ = c.loop-item.item-index in
    let old : Assignment = assignment_of c.args.modes.now in
    let now : Assignment = assignment_of c.loop-item.modes in
    let new : Assignment = assignment_of c.look_at_item.new.modes in
    let known : Environment = environment c.loop-item.known.levels in
    let more : Environment = environment c.pass.new.self.levels in
    let body : List Item = (clause_at P c.args.no.0).body in
    let here = item_here nodes c.items-item-items.result.now body i
    (Call (record { 0 = 0 })) c.items-item-items.ensures.body c.loop-item-test.true in
    let lowered : Bool = c.in_ok-look_at_item.field-0 in
    let low = c.look_at_item.ensures lowered c.in_ok-look_at_item.was in
    let at : AtItem P known (get_or body i fail) now new =
    λ other well met above. low.0 other well (subst (λ (x : Item). AllMet other (asked_by_item known x)) here.0 met) above in
    along_next P c.args.no.0 i old now new known more c.loop-item.fell lowered c.if-branch.fell here.1 c.loop-item.invariant at low.1
    (λ e. elim c.if-branch.branch [
      | then-branch w ↦ w.fell-is
      | else-branch w ↦ absurd (true≢false (sym e ∙ w.if-branch.false))
    ])
    (λ e. elim c.if-branch.branch [
      | then-branch w ↦ absurd (true≢false (sym w.if-branch.true ∙ e))
      | else-branch w ↦ w.fell-is
    ])
    (c.in_ok-pass.ensures ∙ ap (λ (x : Item). after_item new known x) (sym here.0))

pub returns : goal.returns
returns c = λ fell is.
    let P : Program = program_of c.args.loaded.now in
    let nodes : List Shape = (skeleton_of c.args.loaded.now).nodes in
    let k : Clause = clause_at P c.args.no.0 in
    let t : Term = node_term nodes c.head-head.result.0 in
    let i : ℕ = c.loop-item.item-index in
    let old : Assignment = assignment_of c.args.modes.now in
    let now : Assignment = assignment_of c.loop-item.modes in
    let new : Assignment = assignment_of c.lower_all.new.modes in
    let known : Environment = environment c.loop-item.known.levels in
    let ds : List Demand = c.deref.result.now in
    let lowered : Bool = c.in_ok-lower_all.field-0 in
    let low = c.lower_all.ensures lowered c.in_ok-lower_all.was in
    let same : c.if-branch-2.fell ≡ fell = cc in
    let asked : ds ≡ asked_of known Succeeded k.head =
    c.deref.ensures.value
    ∙ c.in_ok-ask.ensures
    ∙ ap (λ (es : List Demand). es ++ asked_of known Succeeded t) c.new-demands.ensures.items
    ∙ ap (λ (u : Term). asked_of known Succeeded u) c.head-head.ensures.term in
    let past : length k.body ≤ i =
    items_past nodes c.items-item-items.result.now k.body i c.items-item-items.ensures.body c.loop-item-test.false in
    let both =
    along_all P c.args.no.0 i old now new known ds c.loop-item.fell lowered c.if-branch-2.fell c.requires past c.loop-item.invariant asked
    low.0
    (fell_alone lowered now new (AllMet new ds) low.1)
    (λ e. elim c.if-branch-2.branch [
      | then-branch-2 w ↦ w.fell-is
      | else-branch-2 w ↦ absurd (true≢false (sym e ∙ w.if-branch-2.false))
    ])
    (λ e. elim c.if-branch-2.branch [
      | then-branch-2 w ↦ absurd (true≢false (sym w.if-branch-2.true ∙ e))
      | else-branch-2 w ↦ w.fell-is
    ]) in
    (both.0, subst (λ (b : Bool). FellOr b old new (Unit {0})) same both.1)
