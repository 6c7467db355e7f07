-- When nothing outgrows a limit.
use Rattle.std.specs.Prelude.{ℕ, ◌+◌, ◌≤◌, List}
use Rattle.and_model.specs.Solutions.{Equation}
use Rattle.and_model.specs.Programs.{Program, Arithmetic, clause_at, clause_weight}
use Rattle.and_model.specs.Trees.{QueryTree, Open, Closed, weight}
use Rattle.and_model.specs.Reached.{CandidateOf, Reached}

-- The query weighs at most the limit, and so does every reached tree together with any candidate of any of its open
-- goals.
abbrev pub AllFit : Program → ℕ → Type 0
AllFit P limit =
    (clause_weight P.query ≤ limit)
    × ((t : QueryTree P) → Reached P limit t → (es : List Equation) (gs : List Arithmetic) → Closed t es gs
    → (o : Open t) (c : ℕ) → CandidateOf t es o c → weight t + clause_weight (clause_at P c) ≤ limit)
