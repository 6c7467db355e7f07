-- An event that only moves a key, or asks, forks none, answers none and gives none up.
use Rattle.std.proofs.Common.{◌≡◌, [], refl}
use Rattle.and_histories.specs.PlainTree.{Event, fork, publish, claim, clear, end, look, left}
use Rattle.and_team_laws.specs.Done.{IsPassing, forks_in, answered_in, given_up_in}

pub passes_by : (event : Event) → IsPassing event → (forks_in event ≡ []) × (answered_in event ≡ []) × (given_up_in event ≡ [])
passes_by (fork team key longer clauses) is = absurd is
passes_by (publish team cell key) is = (refl, refl, refl)
passes_by (claim team cell serial) is = (refl, refl, refl)
passes_by (clear team cell) is = (refl, refl, refl)
passes_by (end team key how) is = absurd is
passes_by (look team cell) is = (refl, refl, refl)
passes_by (left team) is = (refl, refl, refl)
