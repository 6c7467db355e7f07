use Rattle.std.proofs.Common.{◌∙◌, List, ap, map}
use Rattle.and_lint.specs.Held.{nodes_in, numbers_of}
use Rattle.and_lint.specs.declared.bodies.Body.{Body}
use Rattle.and_lint.proofs.Growing.{one_empty, one_unused}
use Rattle.and_lint.proofs.bodies.no_bodies.Goals as goal

pub loop-init : goal.loop-init
loop-init c = (
  ap (λ (bs : List Body). map nodes_in bs) c.new-bodies.ensures.items,
  ap (λ (bs : List Body). map numbers_of bs) c.new-bodies.ensures.items,
)

pub loop-preserved : goal.loop-preserved
loop-preserved c = (
  ap (λ (bs : List Body). map nodes_in bs) c.in_ok-push.ensures.items
      ∙ one_empty c.loop.bodies.items c.new.result c.loop.counter c.loop.invariant.0 c.new.ensures.items,
  ap (λ (bs : List Body). map numbers_of bs) c.in_ok-push.ensures.items
      ∙ one_unused c.loop.bodies.items c.new.result c.loop.counter c.loop.invariant.1 c.new.ensures.variables,
)
