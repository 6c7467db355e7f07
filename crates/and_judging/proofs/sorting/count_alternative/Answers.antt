use Rattle.std.proofs.Common.{refl, arith, ◌≤◌, ◌+◌, ◌∙◌, ap, sym}
use Rattle.and_judging.specs.Sorted.{with_alternative, alter_in}
use Rattle.and_judging.specs.Sorts.{local_in, locals_in}
use Rattle.and_judging.proofs.Altering.{count_few, counted_in, unaltered}
use Rattle.and_judging.proofs.sorting.count_alternative.Goals as goal

pub overflow_add-disjunction : goal.overflow_add-disjunction
overflow_add-disjunction c =
    let few : c.index_mut-disjunction.result.now.count ≤ 18446744073709551614 =
    count_few 18446744073709551614 c.args.disjunctions.now.items c.in-Some.place c.index_mut-disjunction.result.now
    (omega (arith, c.if-place-len.true, c.len.ensures)) c.index_mut-disjunction.ensures.value c.requires in
    omega (arith, few)

pub returns-then-place-len : goal.returns-then-place-len
returns-then-place-len c =
    counted_in c.args.disjunctions.now.items c.in-Some.place c.index_mut-disjunction.result.now
    (record { variables = c.index_mut-disjunction.result.now.variables; count = c.index_mut-disjunction.result.now.count + 1 })
    (omega (arith, c.if-place-len.true, c.len.ensures)) c.index_mut-disjunction.ensures.value refl refl
    ∙ sym (ap (λ s. alter_in s with_alternative (locals_in c.args.disjunctions.now.items)) c.in-Some.is)

pub returns-else-place-len : goal.returns-else-place-len
returns-else-place-len c =
    unaltered local_in with_alternative c.args.disjunctions.now.items c.in-Some.place (omega (arith, c.if-place-len.false, c.len.ensures))
    ∙ sym (ap (λ s. alter_in s with_alternative (locals_in c.args.disjunctions.now.items)) c.in-Some.is)
