use Rattle.std.proofs.Common.{◌∙◌, ap, map}
use Rattle.and_workers.specs.Waiting.{Waiting}
use Rattle.and_workers.proofs.Suspending.{goals_of}
use Rattle.and_workers.proofs.suspended.Suspended.rest.Goals as goal

pub returns : goal.returns
returns c = c.of_items.ensures ∙ goals_of c.self.inside.goals.items c.self.inside.cells.items c.self.invariant
    ∙ ap (λ ws. map (λ (w : Waiting). w.goal) ws) c.self.view_is
