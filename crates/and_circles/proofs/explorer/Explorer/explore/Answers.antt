use Rattle.std.proofs.Common.{◌≡◌, rules, sym, ap, ◌∙◌}
use Rattle.std.specs.Prelude.{Ok}
use Rattle.and_circles.specs.Explored.{Finished}
use Rattle.and_circles.specs.declared.explorer.Explored.TheVariants as explored
use Rattle.and_circles.proofs.Keeping.{nothing_known}
use Rattle.and_circles.proofs.explorer.Explorer.explore.Goals as goal

pub invariant_of-self : goal.invariant_of-self
invariant_of-self g c =
    let is : c.run-found.result ≡ Ok explored.Ends = search rules in
    (c.run-found.ensures.ends is).1

pub returns-in-Ok-Half-clause-half : goal.returns-in-Ok-Half-clause-half
returns-in-Ok-Half-clause-half g c = λ cell is.
    let half = c.run-found.ensures.answer.half cell is in
    (half.0, half.1, ap (λ (f : Finished). f.halves) (sym c.self.view_is) ∙ half.2)

pub returns-in-Ok-Circle-clause-forgotten : goal.returns-in-Ok-Circle-clause-forgotten
returns-in-Ok-Circle-clause-forgotten g c = λ _.
    nothing_known c.forget.new.self.marks c.forget.new.self.structures c.forget.ensures.marks c.forget.ensures.structures

pub returns-in-Ok-Half-clause-forgotten : goal.returns-in-Ok-Half-clause-forgotten
returns-in-Ok-Half-clause-forgotten g c = λ _.
    nothing_known c.forget-in-Ok-Half.new.self.marks c.forget-in-Ok-Half.new.self.structures c.forget-in-Ok-Half.ensures.marks
    c.forget-in-Ok-Half.ensures.structures

pub returns-in-Err-clause-forgotten : goal.returns-in-Err-clause-forgotten
returns-in-Err-clause-forgotten g c = λ _.
    nothing_known c.forget-in-Err.new.self.marks c.forget-in-Err.new.self.structures c.forget-in-Err.ensures.marks c.forget-in-Err.ensures.structures
