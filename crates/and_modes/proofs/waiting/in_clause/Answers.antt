use Rattle.std.proofs.Common.{ℕ, List, ◌≡◌, ◌+◌, Some, None, sym, ap, ◌∙◌, refl, arith, get_or}
use Rattle.and_model.specs.Terms.{Term}
use Rattle.and_model.specs.Programs.{Program, Clause, Item, clause_at}
use Rattle.and_program.specs.Loaded.{skeleton_of, program_of}
use Rattle.and_program.specs.Skeletons.{Shape, node_term, item_of}
use Rattle.and_program.specs.Items.{node_item}
use Rattle.and_program.specs.declared.item.ItemNode.TheVariants.{Call}
use Rattle.and_modes.specs.Modes.{Assignment, Environment, levels_of, arguments_of, all_raised, after_item, waited_by, waited_at}
use Rattle.and_modes.specs.Modes.{before_item}
use Rattle.and_modes.specs.Kept.{assignment_of}
use Rattle.and_modes.specs.Known.{environment}
use Rattle.and_modes.specs.Waiting.{first_unknown}
use Rattle.and_modes.specs.declared.level.Level.TheVariants.{Any}
use Rattle.and_modes.specs.declared.level.Side.TheVariants.{Called}
use Rattle.and_modes.proofs.Walking.{item_there}
use Rattle.and_modes.proofs.Firsts.{before_next, none_before_next, none_at_all, first_told, item_here, items_past}
use Rattle.and_modes.proofs.waiting.in_clause.Goals as goal

pub loop-node-init : goal.loop-node-init
loop-node-init c =
    let k : Clause = clause_at (program_of c.args.loaded.now) c.args.no.0 in
    let m : Assignment = assignment_of c.args.modes.now in
    let t : Term = node_term (skeleton_of c.args.loaded.now).nodes c.head.result.0 in (
      c.in_ok-raise_arguments.ensures
          ∙ ap (λ (e : Environment). all_raised e (levels_of m t Called) 0 (arguments_of t)) c.nothing-known.ensures
          ∙ ap (λ (u : Term). all_raised (λ v. Any) (levels_of m u Called) 0 (arguments_of u)) c.head.ensures.term,
      refl,
      λ v is_clause lt w. omega arith,
    )

pub first_waited-requires : goal.first_waited-requires
first_waited-requires c =
    item_there (skeleton_of c.args.loaded.now).nodes 0 c.items-node-items.result.now c.loop-node.node-index
    (Call (record { 0 = 0 })) c.items-node-items.ensures.there c.loop-node-test.true

pub returns-in-Some : goal.returns-in-Some
returns-in-Some c =
    let P : Program = program_of c.args.loaded.now in
    let m : Assignment = assignment_of c.args.modes.now in
    let nodes : List Shape = (skeleton_of c.args.loaded.now).nodes in
    let i : ℕ = c.loop-node.node-index in
    let here = item_here nodes c.items-node-items.result.now (clause_at P c.args.no.0).body i
    (Call (record { 0 = 0 })) c.items-node-items.ensures.body c.loop-node-test.true in
    let some : first_unknown (before_item P m c.args.no.0 i) (waited_at P c.args.no.0 i) ≡ Some c.in-Some.variable =
    ap (λ (e : Environment). first_unknown e (waited_at P c.args.no.0 i)) (sym c.loop-node.invariant.0)
    ∙ ap (λ (item : Item). first_unknown (environment c.loop-node.known.levels) (waited_by item)) here.0
    ∙ sym c.in_ok-variable.ensures
    ∙ c.in-Some.is in
    rw c.loop-node.invariant.1 (first_told P m c.args.no i c.in-Some.variable c.requires c.loop-node.invariant.2 some)

pub pass-requires : goal.pass-requires
pass-requires c =
    item_there (skeleton_of c.args.loaded.now).nodes 0 c.items-node-items.result.now c.loop-node.node-index
    (Call (record { 0 = 0 })) c.items-node-items.ensures.there c.loop-node-test.true

pub loop-node-preserved : goal.loop-node-preserved
loop-node-preserved c =
    let P : Program = program_of c.args.loaded.now in
    let m : Assignment = assignment_of c.args.modes.now in
    let nodes : List Shape = (skeleton_of c.args.loaded.now).nodes in
    let i : ℕ = c.loop-node.node-index in
    let now : Environment = environment c.loop-node.known.levels in
    let here = item_here nodes c.items-node-items.result.now (clause_at P c.args.no.0).body i
    (Call (record { 0 = 0 })) c.items-node-items.ensures.body c.loop-node-test.true in
    let none : first_unknown (before_item P m c.args.no.0 i) (waited_at P c.args.no.0 i) ≡ None =
    ap (λ (e : Environment). first_unknown e (waited_at P c.args.no.0 i)) (sym c.loop-node.invariant.0)
    ∙ ap (λ (item : Item). first_unknown now (waited_by item)) here.0
    ∙ sym c.in_ok-variable.ensures
    ∙ c.in-None.is in (
      c.in_ok-pass.ensures
          ∙ ap (λ (e : Environment). after_item m e
          (item_of nodes (node_item (get_or c.items-node-items.result.now i (Call (record { 0 = 0 })))))) c.loop-node.invariant.0
          ∙ ap (λ (item : Item). after_item m (before_item P m c.args.no.0 i) item) (sym here.0)
          ∙ sym (before_next P m c.args.no.0 i here.1),
      ap (λ (n : ℕ). n + 1) c.loop-node.invariant.1,
      none_before_next P m c.args.no.0 i c.loop-node.invariant.2 none,
    )

pub returns : goal.returns
returns c =
    let P : Program = program_of c.args.loaded.now in
    none_at_all P (assignment_of c.args.modes.now) c.args.no.0 c.loop-node.node-index
    (items_past (skeleton_of c.args.loaded.now).nodes c.items-node-items.result.now
    (clause_at P c.args.no.0).body c.loop-node.node-index c.items-node-items.ensures.body c.loop-node-test.false)
    c.loop-node.invariant.2
