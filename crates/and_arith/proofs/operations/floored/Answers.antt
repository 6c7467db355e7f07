use Rattle.std.proofs.Common.{rules, ap, ◌∙◌, Some, FitsSigned, w64, to_z, of_z, ◌+ℤ◌}
use Rattle.std.proofs.lemmas.Int.{to_z-of_z}
use Rattle.and_arith.proofs.Numbers.{answers_above, answers_none, answers_below}
use Rattle.and_arith.proofs.operations.floored.Goals as goal

pub returns-then-b-gt0 : goal.returns-then-b-gt0
returns-then-b-gt0 c =
    answers_above _ _ _ c.ranges.a c.ranges.b (record { sfits = c.wrapping_rem_euclid-rest.type_inv }) c.wrapping_rem_euclid-rest.ensures c.if-b-gt0.true

pub returns-then-rest-eq0 : goal.returns-then-rest-eq0
returns-then-rest-eq0 c =
    answers_none _ _ _ c.ranges.a c.ranges.b (record { sfits = c.wrapping_rem_euclid-rest.type_inv }) c.wrapping_rem_euclid-rest.ensures c.if-b-eq0.false
    c.if-b-gt0.false c.if-rest-eq0.true

pub returns : goal.returns
returns c =
    let f : FitsSigned w64 (to_z w64 (of_z w64 c.wrapping_rem_euclid-rest.result) +ℤ to_z w64 (of_z w64 c.args.b)) = search rules in
    ap Some (to_z-of_z w64 _ f)
    ∙ answers_below _ _ _ c.ranges.a c.ranges.b (record { sfits = c.wrapping_rem_euclid-rest.type_inv }) c.wrapping_rem_euclid-rest.ensures c.if-b-eq0.false
    c.if-b-gt0.false c.if-rest-eq0.false
