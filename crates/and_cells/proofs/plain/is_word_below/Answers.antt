use Rattle.std.proofs.Common.{arith}
use Rattle.std.proofs.lemmas.Bool.Decides.{nat_tests}
use Rattle.and_cells.proofs.PlainRows.{below_word}
use Rattle.and_cells.proofs.plain.is_word_below.Goals as goal

pub returns-then-ends : goal.returns-then-ends
returns-then-ends c = λ is. below_word c.args.word c.args.floor (grind (arith, nat_tests, c.if-ends.true)) (grind (arith, nat_tests, is))

pub returns-else-ends : goal.returns-else-ends
returns-else-ends c = λ is. absurd (cc)
