use Rattle.std.proofs.Common.{ℕ, Bool, Ok, ◌≡◌, ◌∙◌, ap, get_or}
use Rattle.std.proofs.lemmas.List.{get_or_default}
use Rattle.and_modes.specs.Kept.{assignment_of}
use Rattle.and_modes.specs.declared.demands.Demand.{Demand}
use Rattle.and_modes.specs.declared.level.Level.TheVariants.{Any}
use Rattle.and_modes.specs.declared.level.Side.TheVariants.{Called}
use Rattle.and_modes.proofs.Looking.{lowered_same, lowered_more}
use Rattle.and_modes.proofs.inference.lower_all.Goals.{then-branch+in_ok-add_all, else-branch}
use Rattle.and_modes.proofs.inference.lower_all.Goals as goal

pub loop-demand-preserved : goal.loop-demand-preserved
loop-demand-preserved c =
    let ds = c.args.demands.now in
    let i : ℕ = c.loop-demand.demand-index in
    let first : Demand = record { place = record { name = record { 0 = 0 }; arity = 0; number = 0 }; side = Called; level = Any } in
    let d : Demand = get_or ds i first in
    let is : d ≡ get_or ds i d = get_or_default ds i first d c.loop-demand-test.true in
    let old = assignment_of c.args.modes.now in
    let now = assignment_of c.loop-demand.modes in
    let new = assignment_of c.lower.new.self in
    let named = c.lower.ensures.named in
    elim c.if-branch.branch [
      | then-branch+in_ok-add_all w ↦ rw w.fell-is
          (lowered_more ds old now new c.loop-demand.fell i d c.loop-demand.invariant c.loop-demand-test.true is
          (c.lower.ensures.fell (c.in_ok-lower.was ∙ ap (λ (b : Bool). Ok b) w.if-branch.true)) named.0 named.1 named.2)
      | else-branch w ↦
          let met = c.lower.ensures.met (c.in_ok-lower.was ∙ ap (λ (b : Bool). Ok b) w.if-branch.false) in
          rw w.fell-is (lowered_same ds old now new c.loop-demand.fell i d c.loop-demand.invariant c.loop-demand-test.true is met.0 met.1)
    ]
