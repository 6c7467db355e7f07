-- Numbers of one digit and of two, as they are written.
use Rattle.std.proofs.Common.{ℕ, ◌≡◌, ◌+◌, ◌/◌, ◌%◌, ◌<◌, ◌≤◌, [], ◌∷◌, ◌++◌, sym, ap, ◌∙◌, arith}
use Rattle.std.specs.Fmt.{decimal}
use Rattle.std.proofs.lemmas.Fmt.{decimal_digit, decimal_step}
use Rattle.and_model.specs.Lines.{Bytes}

pub digit_written : (n : ℕ) (old new : Bytes) → n < 10 → new ≡ old ++ (48 + n) ∷ [] → new ≡ old ++ decimal n
digit_written n old new below e = e ∙ ap (λ (bs : Bytes). old ++ bs) (sym (decimal_digit n below))

pub digits_written : (n : ℕ) (old new : Bytes) → 10 ≤ n → n < 100 → new ≡ old ++ (48 + n / 10) ∷ (48 + n % 10) ∷ [] → new ≡ old ++ decimal n
digits_written n old new above below e =
    let two : decimal n ≡ (48 + n / 10) ∷ (48 + n % 10) ∷ [] =
    decimal_step n above (omega arith) ∙ ap (λ (bs : Bytes). bs ++ (48 + n % 10) ∷ []) (decimal_digit (n / 10) (omega arith)) in
    e ∙ ap (λ (bs : Bytes). old ++ bs) (sym two)
