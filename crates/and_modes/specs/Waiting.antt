-- What a verdict says of the clauses that were seen so far.
use Rattle.std.specs.Prelude.{ℕ, ◌≤◌, ◌≡◌, ◌⊎◌, Bool, true, false, leb, cond, length, List, [], ◌∷◌, map, Option}
use Rattle.std.specs.Prelude.{Some, None}
use Rattle.and_model.specs.Terms.{Path, Term, variables_of}
use Rattle.and_model.specs.Programs.{Program, clause_at}
use Rattle.and_modes.specs.Modes.{rank, Assignment, Environment, Wait, WaitsFor, IsEarlier}
use Rattle.and_modes.specs.declared.verdicts.Verdict.{Verdict}
use Rattle.and_modes.specs.declared.verdicts.Verdict.TheVariants.{Safe, Waits}

-- the numbers of a term's variables, from left to right
abbrev pub numbers_in : Term → List ℕ
numbers_in t = map (λ (v : Path × ℕ). v.1) (variables_of t)

-- the first of these variables that is not known to be ground
abbrev pub first_unknown : Environment → List ℕ → Option ℕ
first_unknown e [] = None
first_unknown e (k ∷ ks) = cond (leb 1 (rank (e k))) (first_unknown e ks) (Some k)

-- the verdict that this variable waits
abbrev pub told : Wait → Verdict
told w = Waits (record { 0 = w.clause }) w.item w.variable

-- None of the clauses that were seen has a variable that waits, or the first of all those that they have is told.
abbrev pub IsVerdictAmong : Program → Assignment → (seen : ℕ → Bool) → Verdict → Type 0
IsVerdictAmong P m seen Safe = (v : Wait) → seen v.clause ≡ true → WaitsFor P m v → ⊥
IsVerdictAmong P m seen (Waits clause item variable) =
    let w : Wait = record { clause = clause.0; item = item; variable = variable } in
    (seen clause.0 ≡ true) × WaitsFor P m w
    × ((v : Wait) → seen v.clause ≡ true → WaitsFor P m v → (v ≡ w) ⊎ IsEarlier P w v)

-- the clause that is told is there
abbrev pub IsTold : Program → Verdict → Type 0
IsTold P Safe = Unit {0}
IsTold P (Waits clause item variable) = clause.0 ≤ length P.clauses

-- the clause that is told stands on no later line
abbrev pub is_told_before : Program → Verdict → ℕ → Bool
is_told_before P Safe c = false
is_told_before P (Waits clause item variable) c = leb (clause_at P clause.0).line (clause_at P c).line
