use Rattle.std.proofs.Common.{[], ◌∷◌, ◌++◌, sym, subst}
use Rattle.std.specs.Prelude.{OnOk}
use Rattle.and_answers.specs.Kept.{outcome_with}
use Rattle.and_fork_texts.specs.Texts.{ended}
use Rattle.and_forks.specs.Written.{AreWritten}
use Rattle.and_forks.proofs.lines.Lines.put_end.Goals as goal

pub returns-then-floundered : goal.returns-then-floundered
returns-then-floundered c = λ ls written.
    subst (λ b. OnOk c.put_floundered.result
    (AreWritten (ls ++ record { depth = c.args.depth; node = ended (outcome_with b c.args.line.now) } ∷ []) c.put_floundered.new.self))
    (sym c.if-floundered.true) (c.put_floundered.ensures ls written)

pub returns-else-floundered : goal.returns-else-floundered
returns-else-floundered c = λ ls written.
    subst (λ b. OnOk c.put_answer.result
    (AreWritten (ls ++ record { depth = c.args.depth; node = ended (outcome_with b c.args.line.now) } ∷ []) c.put_answer.new.self))
    (sym c.if-floundered.false) (c.put_answer.ensures ls written)
