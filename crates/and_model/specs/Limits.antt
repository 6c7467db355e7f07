-- Where the limit on the weight of a tree keeps an exploration from going on, and how many may explore (this project's
-- own).
use Rattle.std.specs.Prelude.{ℕ, ◌+◌, ◌<◌, ◌≤◌, ◌≡◌, ◌⊎◌, List}
use Rattle.and_model.specs.Solutions.{Equation}
use Rattle.and_model.specs.Programs.{Program, Arithmetic, clause_at, clause_weight}
use Rattle.and_model.specs.Trees.{QueryTree, Open, IsLeftmost, Closed, weight}
use Rattle.and_model.specs.Reached.{CandidateOf, Shut, Dead, Reached}
use Rattle.and_model.specs.declared.limits.Hands.{Hands}
use Rattle.and_model.specs.declared.limits.TheConstants.{MAX_TEAMS, MAX_WORKERS}

-- What does not fit: the query by itself, or a partial tree with a clause for one of its open goals.
pub data Cut (P : Program) : Type 0 where
  query_alone : Cut P
  at_goal : (partial : QueryTree P) → Open partial → (clause : ℕ) → Cut P

-- No open goal has one candidate alone with which the tree weighs at most the limit, under these closed equations.
abbrev pub NoneAloneFits : (P : Program) → ℕ → QueryTree P → List Equation → Type 0
NoneAloneFits P limit t es =
    (o : Open t) (c : ℕ) → CandidateOf t es o c → ((d : ℕ) → CandidateOf t es o d → d ≡ c)
    → limit < weight t + clause_weight (clause_at P c)

-- The query weighs more than the limit. Or the tree is reached and not Dead, no goal has one candidate alone that
-- fits, the clause is the one candidate of the goal, or a candidate of the leftmost goal of a Shut tree, and the tree
-- and the clause together weigh more than the limit.
abbrev pub OverLimit : (P : Program) → ℕ → Cut P → Type 0
OverLimit P limit query_alone = limit < clause_weight P.query
OverLimit P limit (at_goal t o c) =
    Reached P limit t × (Dead t → ⊥) × (es : List Equation) × (gs : List Arithmetic) × Closed t es gs
    × CandidateOf t es o c × (((d : ℕ) → CandidateOf t es o d → d ≡ c) ⊎ (Shut t × IsLeftmost t o))
    × (limit < weight t + clause_weight (clause_at P c))
    × NoneAloneFits P limit t es

-- There is a team at least, each has a worker at least, and there are not more than there may be.
abbrev pub AreInRange : Hands → Type 0
AreInRange hands = (0 < hands.teams) × (hands.teams ≤ MAX_TEAMS) × (0 < hands.workers) × (hands.workers ≤ MAX_WORKERS)
