-- What the computations show whose clauses weigh no more than a limit.
use Rattle.std.specs.Prelude.{ℕ, ◌+◌, ◌≤◌, List, [], ◌∷◌}
use Rattle.and_model.specs.Terms.{Term}
use Rattle.and_model.specs.Programs.{Program, Arithmetic, clause_at, clause_weight}
use Rattle.and_model.specs.Listing.{Entry}
use Rattle.and_sld.specs.Resolution.{Computes, Shows}

-- the weight of input clauses
abbrev pub clauses_weight : Program → List ℕ → ℕ
clauses_weight P [] = 0
clauses_weight P (c ∷ cs) = clause_weight (clause_at P c) + clauses_weight P cs

-- There is a computation by the entry's clauses, which with the query weigh at most the limit, and the entry's outcome
-- shows how it ends.
abbrev pub IsComputed : Program → ℕ → Entry → Type 0
IsComputed P limit e =
    (answer : List Term) × (waiting : List Arithmetic) × Computes P e.code answer waiting
    × Shows P answer waiting e.outcome × (clause_weight P.query + clauses_weight P e.code ≤ limit)
