use Rattle.std.proofs.Common.{refl, sym, ap, ◌∙◌, arith}
use Rattle.and_judging.specs.Sorted.{alter_in, with_variables}
use Rattle.and_judging.specs.Sorts.{own, locals_in, local_in}
use Rattle.and_judging.proofs.Altering.{noted_in, unaltered}
use Rattle.and_judging.proofs.sorting.note_in.Goals as goal

pub returns-in_ok-note_all : goal.returns-in_ok-note_all
returns-in_ok-note_all c =
    let vs = own c.args.variables.now in
    noted_in c.args.disjunctions.now.items c.in-Some.place c.index_mut-disjunction.result.now
    (record { variables = c.note_all.new.variables; count = c.index_mut-disjunction.result.now.count }) vs
    (omega (arith, c.if-place-len.true, c.len.ensures)) c.index_mut-disjunction.ensures.value c.in_ok-note_all.ensures refl
    ∙ sym (ap (λ s. alter_in s (with_variables vs) (locals_in c.args.disjunctions.now.items)) c.in-Some.is)

pub returns-else-place-len : goal.returns-else-place-len
returns-else-place-len c =
    let vs = own c.args.variables.now in
    unaltered local_in (with_variables vs) c.args.disjunctions.now.items c.in-Some.place (omega (arith, c.if-place-len.false, c.len.ensures))
    ∙ sym (ap (λ s. alter_in s (with_variables vs) (locals_in c.args.disjunctions.now.items)) c.in-Some.is)
