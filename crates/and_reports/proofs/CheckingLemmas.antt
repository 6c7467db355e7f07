-- From modes to a verdict under the greatest of them.
use Rattle.std.proofs.Common.{◌≡◌, ◌↔◌, refl, Result, Ok, Err, IfOk}
use Rattle.and_model.specs.Programs.{Program}
use Rattle.and_modes.specs.Modes.{Assignment, Wait, Greatest, IsSafe, WaitsFirst}
use Rattle.and_modes.specs.Waiting.{told}
use Rattle.and_modes.specs.declared.verdicts.Verdict.{Verdict}
use Rattle.and_modes.specs.declared.verdicts.Verdict.TheVariants.{Safe, Waits}
use Rattle.and_reports.specs.Checked.{HasClause, IsVerdict, wait_of}

-- a verdict under the greatest modes
judged_under : (P : Program) (m : Assignment) (v : Verdict) → Greatest P m → (v ≡ Safe ↔ IsSafe P m)
    → ((w : Wait) → v ≡ told w ↔ WaitsFirst P m w) → IsVerdict P v
judged_under P m Safe greatest safe waits = (m, greatest, safe.0 refl)
judged_under P m (Waits clause item variable) greatest safe waits = (m, greatest, (waits (wait_of clause.0 item variable)).0 refl)

pub judged_is : {E : Type 0} (P : Program) (m : Assignment) (r : Result Verdict E) → Greatest P m
    → IfOk r (λ v. v ≡ Safe ↔ IsSafe P m) → IfOk r (λ v. (w : Wait) → v ≡ told w ↔ WaitsFirst P m w) → IfOk r (IsVerdict P)
judged_is P m (Ok v) greatest safe waits = judged_under P m v greatest safe waits
judged_is P m (Err e) greatest safe waits = tt

pub has_clause : (P : Program) (v : Verdict) → IsVerdict P v → HasClause P v
has_clause P Safe is = tt
has_clause P (Waits clause item variable) (m, greatest, first) = first.0.0
