-- What a check tells of a text (this project's own).
use Rattle.std.specs.Prelude.{ℕ, ◌≡◌, ◌≤◌, [], ◌∷◌, ◌++◌, length, get_or, codes}
use Rattle.std.specs.Fmt.{decimal}
use Rattle.and_model.specs.Lines.{Bytes}
use Rattle.and_model.specs.Programs.{Program, clause_at}
use Rattle.and_modes.specs.Modes.{Assignment, Wait, Greatest, IsSafe, WaitsFirst}
use Rattle.and_modes.specs.declared.verdicts.Verdict.{Verdict}
use Rattle.and_modes.specs.declared.verdicts.Verdict.TheVariants.{Safe, Waits}

-- the line that says that nothing waits
abbrev pub safe_line : Bytes
safe_line = codes "safe" ++ 10 ∷ []

-- the line of a variable that waits: the line of its clause, and its name as it was written
abbrev pub waits_line : Program → Wait → Bytes
waits_line P w =
    let k = clause_at P w.clause in
    codes "waits: line " ++ decimal k.line ++ codes ": " ++ get_or k.written w.variable [] ++ 10 ∷ []

-- No variable of the program waits under the greatest modes, and this is written.
pub record IsToldSafe (program : Program) (out : Bytes) : Type 0 where
  pub modes : Assignment
  pub greatest : Greatest program modes
  pub safe : IsSafe program modes
  pub written : out ≡ safe_line

-- This is the first variable of the program that waits under the greatest modes, and it is named.
pub record IsToldWaiting (program : Program) (out : Bytes) : Type 0 where
  pub modes : Assignment
  pub wait : Wait
  pub greatest : Greatest program modes
  pub first : WaitsFirst program modes wait
  pub written : out ≡ waits_line program wait

-- the variable of which a verdict speaks
abbrev pub wait_of : (clause item variable : ℕ) → Wait
wait_of clause item variable = record { clause = clause; item = item; variable = variable }

-- what a verdict says of a program under an assignment
abbrev pub Holds : Program → Assignment → Verdict → Type 0
Holds P m Safe = IsSafe P m
Holds P m (Waits clause item variable) = WaitsFirst P m (wait_of clause.0 item variable)

-- the verdict holds under the greatest modes
abbrev pub IsVerdict : Program → Verdict → Type 0
IsVerdict P v = (m : Assignment) × Greatest P m × Holds P m v

-- the clause of which the verdict speaks is there
abbrev pub HasClause : Program → Verdict → Type 0
HasClause P Safe = Unit {0}
HasClause P (Waits clause item variable) = clause.0 ≤ length P.clauses

-- the line of a verdict
abbrev pub verdict_line : Program → Verdict → Bytes
verdict_line P Safe = safe_line
verdict_line P (Waits clause item variable) = waits_line P (wait_of clause.0 item variable)
