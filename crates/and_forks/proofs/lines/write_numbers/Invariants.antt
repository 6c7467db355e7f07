use Rattle.std.proofs.Common.{◌≡◌, ◌++◌, map, drop}
use Rattle.and_model.specs.declared.numbers.ClauseNo.{ClauseNo}
use Rattle.and_fork_texts.specs.Texts.{numbers_text}
use Rattle.and_forks.proofs.lines.write_numbers.Given as goal

abbrev pub invariant-loop-place : goal.invariant-loop-place
invariant-loop-place l = l.text ++ numbers_text (map (λ (c : ClauseNo). c.0) (drop l.place l.clauses))
    ≡ l.fn.text ++ numbers_text (map (λ (c : ClauseNo). c.0) l.clauses)
