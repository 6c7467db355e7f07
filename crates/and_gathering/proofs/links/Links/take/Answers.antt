use Rattle.std.proofs.Common.{◌≡◌, ◌∷◌, None, subst, set}
use Rattle.std.specs.Prelude.{IsPermutation}
use Rattle.and_gathering.specs.Gathering.{present, goal_taken}
use Rattle.and_gathering.specs.declared.links.Taken.{Taken}
use Rattle.and_gathering.proofs.Present.{present_out, read_so}
use Rattle.and_gathering.proofs.links.Links.take.Goals as goal

pub returns-clause-some : goal.returns-clause-some
returns-clause-some c =
    let found = c.in_ok-place.ensures in
    let xs = c.args.self.now.taken.items in
    let same : found.0 ≡ c.in_ok-taken.taken =
    read_so xs c.in_ok-place.place c.index.result.now found.0 c.in_ok-taken.taken found.1 c.index.ensures c.in_ok-taken.was in
    subst (λ (t : Taken). (goal_taken t ≡ c.args.goal) × IsPermutation (present xs) (t ∷ present (set xs c.in_ok-place.place None))) same
    (found.2, present_out xs c.in_ok-place.place found.0 found.1)
