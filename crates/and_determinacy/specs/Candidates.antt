-- The clauses that a goal can still be taken by, as settled cells tell (determinacy of the basic Andorra model:
-- Santos Costa, Warren and Yang, 1991).
use Rattle.std.specs.Prelude.{ℕ, ◌<◌, ◌≡◌, ◌≢◌, ◌↔◌, List, AllPairs, Contains, map}
use Rattle.and_model.specs.Programs.{Of}
use Rattle.and_model.specs.Stands.{term_of}
use Rattle.and_model.specs.declared.goal.Goal.{Goal}
use Rattle.and_model.specs.declared.numbers.ClauseNo.{ClauseNo}
use Rattle.and_model.specs.declared.reference.Ref.{Ref}
use Rattle.and_cells.specs.Ranges.{NamedProgram}
use Rattle.and_branch_laws.specs.Judging.{CandidateInCells, SoleInCells}
use Rattle.and_determinacy.specs.declared.judging.Judged.{Judged}
use Rattle.and_determinacy.specs.declared.judging.Judged.TheVariants.{Nothing, One, Several}
use Rattle.and_determinacy.specs.declared.judging.Narrowed.{Narrowed}
use Rattle.and_determinacy.specs.declared.judging.Narrowed.TheVariants as narrowed

-- These are just the candidates of the goal, in textual order.
abbrev pub AreCandidates : NamedProgram → List Ref → Goal → List ClauseNo → Type 0
AreCandidates P row g cs =
    AllPairs (λ (c d : ClauseNo). c.0 < d.0) cs
    × ((c : ℕ) → Contains (map (λ (no : ClauseNo). no.0) cs) c ↔ CandidateInCells P row g c)

-- what is told of a goal's candidates: that there is none, the one that there is, or that there are more
abbrev pub IsJudged : NamedProgram → List Ref → Goal → Judged → Type 0
IsJudged P row g Nothing = (c : ℕ) → CandidateInCells P row g c → ⊥
IsJudged P row g (One clause) = SoleInCells P row g clause.0
IsJudged P row g Several = (c : ℕ) × (d : ℕ) × (c ≢ d) × CandidateInCells P row g c × CandidateInCells P row g d

-- what a look tells of a goal's candidates: that there is none, that there is none but this clause of its predicate,
-- or that there are two
abbrev pub IsNarrowed : NamedProgram → List Ref → Goal → Narrowed → Type 0
IsNarrowed P row g narrowed.Nothing = (c : ℕ) → CandidateInCells P row g c → ⊥
IsNarrowed P row g (narrowed.AtMost clause) =
    Of P.program (term_of P.program g) clause.0 × ((d : ℕ) → CandidateInCells P row g d → d ≡ clause.0)
IsNarrowed P row g narrowed.Several = (c : ℕ) × (d : ℕ) × (c ≢ d) × CandidateInCells P row g c
    × CandidateInCells P row g d

-- what was judged, less whether the one candidate is one
abbrev pub narrowed_as : Judged → Narrowed
narrowed_as Nothing = narrowed.Nothing
narrowed_as (One clause) = narrowed.AtMost clause
narrowed_as Several = narrowed.Several
