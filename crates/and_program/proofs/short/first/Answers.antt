use Rattle.std.proofs.Common.{rules, ◌≡◌, ℕ, min, length, take, ap, ◌∙◌}
use Rattle.std.proofs.lemmas.List.{take_min}
use Rattle.and_program.proofs.short.first.Goals as goal

pub returns : goal.returns
returns c =
    let fewer : c.min.result ≡ min c.args.count (length c.args.bytes.now) = search rules in
    ap (λ (n : ℕ). take n c.args.bytes.now) fewer ∙ take_min c.args.count c.args.bytes.now
