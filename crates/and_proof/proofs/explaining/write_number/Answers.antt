use Rattle.std.proofs.Common.{◌≡◌, ◌++◌, ◌∷◌, [], append_assoc, ap, ◌∙◌}
use Rattle.std.specs.Fmt.{decimal}
use Rattle.and_model.specs.Lines.{Bytes}
use Rattle.and_proof.proofs.explaining.write_number.Goals as goal

pub returns : goal.returns
returns c =
    let number : c.as_bytes.result.now ≡ decimal c.args.number = c.as_bytes.ensures.value ∙ c.format.ensures.text in
    c.in_ok-append-2.ensures ∙ ap (λ (l : Bytes). l ++ c.as_bytes.result.now) c.in_ok-append.ensures
    ∙ ap (λ (b : Bytes). (c.args.out.now ++ 32 ∷ []) ++ b) number ∙ append_assoc c.args.out.now (32 ∷ []) (decimal c.args.number)
