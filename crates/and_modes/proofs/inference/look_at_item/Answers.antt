use Rattle.std.proofs.Common.{Bool, true, false, Ok, ◌≡◌, ◌++◌, ◌∙◌, sym, ap, subst, List}
use Rattle.and_program.specs.Loaded.{skeleton_of}
use Rattle.and_program.specs.Skeletons.{item_of}
use Rattle.and_program.specs.Items.{node_item}
use Rattle.and_modes.specs.Modes.{Assignment}
use Rattle.and_modes.specs.Asked.{asked_by_item, AllMet}
use Rattle.and_modes.specs.Kept.{assignment_of}
use Rattle.and_modes.specs.Known.{environment}
use Rattle.and_modes.specs.Looked.{FellOr}
use Rattle.and_modes.specs.declared.demands.Demand.{Demand}
use Rattle.and_modes.proofs.Along.{fell_alone, fell_and_settled}
use Rattle.and_modes.proofs.inference.look_at_item.Goals as goal
use Rattle.and_modes.proofs.inference.look_at_item.Goals.{After-deref}

-- what the item asks
asked_here : (c : After-deref) → c.deref.result.now ≡ asked_by_item (environment c.args.known.now.levels)
    (item_of (skeleton_of c.args.loaded.now).nodes (node_item c.args.item))
asked_here c =
    c.deref.ensures.value
    ∙ c.in_ok-ask_by_item.ensures
    ∙ ap (λ (ds : List Demand). ds ++ asked_by_item (environment c.args.known.now.levels)
    (item_of (skeleton_of c.args.loaded.now).nodes (node_item c.args.item)))
    c.new-demands.ensures.items

pub returns-then-not-branch : goal.returns-then-not-branch
returns-then-not-branch c = λ fell is.
    let old : Assignment = assignment_of c.args.modes.now in
    let new : Assignment = assignment_of c.lower_all.new.modes in
    let not_fell : false ≡ fell = cc in
    let low = c.lower_all.ensures false (c.in_ok-lower_all.was ∙ ap (λ (b : Bool). Ok b) c.if-not-branch.true) in
    let asked = asked_here (goal.at.returns-then-not-branch c).After-deref in (
      λ other well met above. low.0 other (subst (λ (ds : List Demand). AllMet other ds) (sym asked) met) above,
      subst (λ (b : Bool). FellOr b old new (Unit {0})) not_fell (fell_alone false old new (AllMet new c.deref.result.now) low.1),
    )

pub returns : goal.returns
returns c = λ fell is.
    let old : Assignment = assignment_of c.args.modes.now in
    let now : Assignment = assignment_of c.lower_all.new.modes in
    let new : Assignment = assignment_of c.settle_short.new.modes in
    let has_fell : true ≡ fell = cc in
    let low = c.lower_all.ensures true (c.in_ok-lower_all.was ∙ ap (λ (b : Bool). Ok b) c.if-not-branch.false) in
    let asked = asked_here (goal.at.returns c).After-deref in (
      λ other well met above.
          c.settle_short.ensures.above c.in_ok-settle_short.was other well
          (low.0 other (subst (λ (ds : List Demand). AllMet other ds) (sym asked) met) above),
      subst (λ (b : Bool). FellOr b old new (Unit {0})) has_fell
          (fell_and_settled old now new (AllMet now c.deref.result.now) low.1 (c.settle_short.ensures.lower c.in_ok-settle_short.was)),
    )
