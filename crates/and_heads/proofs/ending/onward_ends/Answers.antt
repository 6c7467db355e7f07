use Rattle.std.proofs.Common.{ap, ◌∙◌}
use Rattle.std.specs.Prelude.{Bool, Ok}
use Rattle.and_heads.proofs.ending.onward_ends.Goals as goal

pub returns-in-Ok : goal.returns-in-Ok
returns-in-Ok g c = λ is. c.ends_soon.ensures.ends (c.in-Ok.is ∙ ap (λ (b : Bool). Ok b) is)
