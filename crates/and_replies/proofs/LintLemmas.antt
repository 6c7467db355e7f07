-- The findings of a program, by their status.
use Rattle.std.proofs.Common.{ℕ, zero, suc, ◌≡◌, sym, subst, arith}
use Rattle.std.proofs.lemmas.Bool.{ne_eqb}
use Rattle.and_model.specs.Lines.{Bytes}
use Rattle.and_model.specs.Programs.{Program}
use Rattle.and_lint.specs.Findings.{IsLint}
use Rattle.and_questions.specs.Linted.{WasLinted, status_found}
use Rattle.and_status.specs.declared.status.Status.{Status}

found_so : (P : Program) (count : ℕ) (out : Bytes) → IsLint P out count → WasLinted P (status_found count) out
found_so P zero out is = is
found_so P (suc n) out is =
    let some = ne_eqb (suc n) 0 (λ e. omega arith) in
    rw some (record { count = suc n; some = omega arith; told = is })

pub was_linted : (P : Program) (count : ℕ) (status : Status) (out : Bytes) → status ≡ status_found count → IsLint P out count → WasLinted P status out
was_linted P count status out e is = subst (λ (s : Status). WasLinted P s out) (sym e) (found_so P count out is)
