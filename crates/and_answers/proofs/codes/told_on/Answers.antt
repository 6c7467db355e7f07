use Rattle.std.proofs.Common.{◌++◌, ◌∙◌, ap, drop}
use Rattle.and_answers.proofs.AlikeLemmas.{code_told}
use Rattle.and_answers.proofs.codes.told_on.Goals as goal

pub returns : goal.returns
returns c =
    code_told c.args.last c.args.code.now c.push_behind.new.short c.args.common c.requires
    (c.in_ok-push_behind.ensures ∙ ap (λ l. l ++ drop c.args.common c.args.code.now) c.truncate.ensures)
