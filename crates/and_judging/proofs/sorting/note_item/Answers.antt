use Rattle.std.proofs.Common.{refl, sym, ap, ◌∙◌, arith}
use Rattle.and_model.specs.Terms.{variables_of}
use Rattle.and_model.specs.Stands.{item_term}
use Rattle.and_program.specs.Skeletons.{item_of}
use Rattle.and_program.specs.Items.{node_item}
use Rattle.and_judging.specs.Sorted.{alter_in, with_variables}
use Rattle.and_judging.specs.Sorts.{shapes_under, locals_in, local_in}
use Rattle.and_judging.proofs.Altering.{noted_in, unaltered}
use Rattle.and_judging.proofs.sorting.note_item.Goals as goal

pub returns-in_ok-note_terms : goal.returns-in_ok-note_terms
returns-in_ok-note_terms c = λ names.
    let vs = variables_of (item_term (item_of (shapes_under names c.args.parts.now) (node_item c.args.item.now))) in
    noted_in c.args.disjunctions.now.items c.in-Some.place c.index_mut-disjunction.result.now
    (record { variables = c.note_terms.new.variables; count = c.index_mut-disjunction.result.now.count }) vs
    (omega (arith, c.if-place-len.true, c.len.ensures)) c.index_mut-disjunction.ensures.value (c.in_ok-note_terms.ensures names) refl
    ∙ sym (ap (λ s. alter_in s (with_variables vs) (locals_in c.args.disjunctions.now.items)) c.in-Some.is)

pub returns-else-place-len : goal.returns-else-place-len
returns-else-place-len c = λ names.
    let vs = variables_of (item_term (item_of (shapes_under names c.args.parts.now) (node_item c.args.item.now))) in
    unaltered local_in (with_variables vs) c.args.disjunctions.now.items c.in-Some.place (omega (arith, c.if-place-len.false, c.len.ensures))
    ∙ sym (ap (λ s. alter_in s (with_variables vs) (locals_in c.args.disjunctions.now.items)) c.in-Some.is)
