use Rattle.std.proofs.Common.{ℕ, ◌≡◌, refl, ap, sym, ◌∙◌, subst, arith}
use Rattle.std.specs.Prelude.{IsSomeAnd}
use Rattle.std.specs.Fmt.{decimal}
use Rattle.std.specs.Result.{result_ok}
use Rattle.std.proofs.lemmas.Fmt.{parse-decimal, IsAscii-decimal}
use Rattle.std.proofs.lemmas.Str.{IsUtf8-from_ascii}
use Rattle.std.specs.Str.{IsUtf8}
use Rattle.and_proof.proofs.reading.number_of.Goals as goal

pub returns-in-Ok : goal.returns-in-Ok
returns-in-Ok c = λ n small is.
    let read = parse-decimal 16 n c.in-Ok.digits.now c.parse.result small (omega (arith, small)) (c.in-Ok.ensures.cases.0 ∙ is) c.parse.ensures.value.0 in
    subst (λ o. IsSomeAnd o (λ (number : ℕ). number ≡ n)) (sym (c.ok.ensures.value ∙ ap result_ok read)) refl

pub returns-in-Err : goal.returns-in-Err
returns-in-Err c = λ n small is.
    c.in-Err.ensures.cases.0 (subst IsUtf8 (sym is) (IsUtf8-from_ascii (decimal n) (IsAscii-decimal n (omega (arith, small)))))
