-- What is told of a program that can be run, and may still not be meant (this project's own).
use Rattle.std.specs.Prelude.{ℕ, ◌<◌, nat_eq, if◌then◌else◌}
use Rattle.and_model.specs.Lines.{Bytes}
use Rattle.and_model.specs.Programs.{Program}
use Rattle.and_lint.specs.Findings.{IsLint}
use Rattle.and_status.specs.declared.status.Status.{Status}
use Rattle.and_status.specs.declared.status.Status.TheVariants.{Answers, NoAnswer}

-- There are findings, and they are told.
pub record HasFindings (program : Program) (out : Bytes) : Type 0 where
  pub count : ℕ
  pub some : 0 < count
  pub told : IsLint program out count

-- What a program is answered with under each status, where its findings are asked for.
abbrev pub WasLinted : Program → Status → Bytes → Type 0
WasLinted program Answers out = IsLint program out 0
WasLinted program NoAnswer out = HasFindings program out
WasLinted program other out = ⊥

-- the status of so many findings
abbrev pub status_found : ℕ → Status
status_found count = if nat_eq count 0 then Answers else NoAnswer
