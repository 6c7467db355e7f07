use Rattle.std.proofs.Common.{[], ◌∷◌, subst}
use Rattle.std.proofs.lemmas.Result.{on_ok_weaker}
use Rattle.and_model.specs.Lines.{Bytes}
use Rattle.and_lint.specs.Kept.{Adds}
use Rattle.and_lint.proofs.linting.add_never.Goals as goal

pub returns : goal.returns
returns c =
    on_ok_weaker c.add.result (λ added. subst (λ (l : Bytes). Adds c.args.findings.now c.add.new.self (l ∷ [])) c.in_ok-line.ensures added) c.add.ensures
