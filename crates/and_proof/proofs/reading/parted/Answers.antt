use Rattle.std.proofs.Common.{◌+◌, length, ◌∙◌, arith}
use Rattle.std.proofs.lemmas.Slice.{between_to_end}
use Rattle.and_proof.proofs.PartedBytes.{parts_are, none_parted}
use Rattle.and_proof.proofs.reading.parted.Goals as goal

pub returns-then-bytes-place-clause-parts : goal.returns-then-bytes-place-clause-parts
returns-then-bytes-place-clause-parts c = λ front back without is.
    let bytes = c.args.bytes.now in
    let place = c.loop-place.place in
    let parts = parts_are bytes front back c.args.at place (place + 1) is without c.loop-place.invariant c.if-bytes-place.true (omega arith) in
    (parts.0, between_to_end bytes (place + 1) (length bytes) (omega arith) ∙ parts.1)

pub returns-clause-parts : goal.returns-clause-parts
returns-clause-parts c = λ front back without is.
    none_parted c.args.bytes.now front back c.args.at is (λ k l e. c.loop-place.invariant k (omega (arith, l, c.loop-place-test.false)) e)
