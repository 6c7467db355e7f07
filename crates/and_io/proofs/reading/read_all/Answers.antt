use Rattle.std.proofs.Common.{◌+◌, ◌≤◌, length, take, ◌++◌, refl, arith}
use Rattle.std.proofs.lemmas.Grind.{common_steps}
use Rattle.and_io.proofs.FlowLemmas.{takes_more}
use Rattle.and_io.proofs.reading.read_all.Goals as goal

pub returns-then-is_err-clause-taken_at_memory : goal.returns-then-is_err-clause-taken_at_memory
returns-then-is_err-clause-taken_at_memory g c = λ memory.
    let bytes = take c.in-Ok.n c.read.new.into in
    let fits : length (c.reading.text ++ bytes) ≤ c.args.limit + 1 = let step = c.in-Ok.ensures.within in grind (arith, common_steps) in
    (c.reading.text ++ bytes, takes_more _ _ _ _ _ _ refl c.reading.invariant.taken c.in-Ok.ensures.front, fits)
