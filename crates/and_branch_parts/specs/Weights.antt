-- What reductions weigh.
use Rattle.std.specs.Prelude.{ℕ, List, sum_by}
use Rattle.and_model.specs.Programs.{Program, clause_at, clause_weight}
use Rattle.and_model.specs.Reductions.{Reduction}

-- what the clauses of reductions weigh
abbrev pub weights_of : Program → List Reduction → ℕ
weights_of P rs = sum_by (λ (r : Reduction). clause_weight (clause_at P r.clause)) rs
