-- From a verdict to what a check tells of it.
use Rattle.std.proofs.Common.{◌≡◌, sym, subst}
use Rattle.and_model.specs.Lines.{Bytes}
use Rattle.and_model.specs.Programs.{Program}
use Rattle.and_modes.specs.declared.verdicts.Verdict.{Verdict}
use Rattle.and_modes.specs.declared.verdicts.Verdict.TheVariants.{Safe, Waits}
use Rattle.and_status.specs.declared.status.Status.{Status}
use Rattle.and_reports.specs.Checked.{IsVerdict, verdict_line, wait_of}
use Rattle.and_reports.specs.Statuses.{status_told}
use Rattle.and_questions.specs.Replied.{WasChecked}

-- what is told of a verdict is what its status says
pub was_told : (P : Program) (v : Verdict) (status : Status) (out : Bytes) → IsVerdict P v → out ≡ verdict_line P v → status ≡ status_told v
    → WasChecked P status out
was_told P Safe status out (m, greatest, safe) is said =
    subst (λ s. WasChecked P s out) (sym said) (record { modes = m; greatest = greatest; safe = safe; written = is })
was_told P (Waits clause item variable) status out (m, greatest, first) is said =
    subst (λ s. WasChecked P s out) (sym said) (record {
      modes = m;
      wait = wait_of clause.0 item variable;
      greatest = greatest;
      first = first;
      written = is;
    })
