use Rattle.std.proofs.lemmas.Result.{on_ok_weaker}
use Rattle.and_lint.proofs.printing.write_next_cell.Goals as goal

pub returns : goal.returns
returns c = on_ok_weaker c.push_cell.result (λ p. (p, c.in_ok-append.ensures)) c.push_cell.ensures
