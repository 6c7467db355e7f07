use Rattle.std.proofs.Common.{sym, subst, ◌≡◌, List}
use Rattle.std.specs.Result.{OnOk}
use Rattle.and_model.specs.Lines.{first_seen}
use Rattle.and_model.specs.Terms.{variables_of}
use Rattle.and_model.specs.Stands.{item_term}
use Rattle.and_program.specs.Skeletons.{Shape, node_term, item_of}
use Rattle.and_program.specs.Items.{node_item}
use Rattle.and_judging.specs.Sorts.{shapes_under, own}
use Rattle.std.proofs.lemmas.Result.{on_ok_weaker}
use Rattle.and_judging.proofs.Noticing.{two_noted}
use Rattle.and_judging.proofs.sorting.note_terms.Goals as goal

pub returns-in-Call : goal.returns-in-Call
returns-in-Call c = λ names.
    subst (λ i. OnOk c.note_term.result (own c.note_term.new.variables.items
    ≡ first_seen (own c.args.variables.now.items) (variables_of (item_term (item_of (shapes_under names c.args.parts.now) (node_item i))))))
    (sym c.in-Call.is) (c.note_term.ensures names)

pub returns-in_ok-note_term-in-Equal : goal.returns-in_ok-note_term-in-Equal
returns-in_ok-note_term-in-Equal c = λ names.
    let ss : List Shape = shapes_under names c.args.parts.now in
    subst (λ i. OnOk c.note_term-in-Equal-2.result (own c.note_term-in-Equal-2.new.variables.items
    ≡ first_seen (own c.args.variables.now.items) (variables_of (item_term (item_of ss (node_item i))))))
    (sym c.in-Equal.is)
    (on_ok_weaker c.note_term-in-Equal-2.result
    (two_noted c.args.variables.now.items c.note_term-in-Equal.new.variables.items c.note_term-in-Equal-2.new.variables.items
    (variables_of (node_term ss c.in-Equal.left.0)) (variables_of (node_term ss c.in-Equal.right.0))
    (c.in_ok-note_term-in-Equal.ensures names)) (c.note_term-in-Equal-2.ensures names))

pub returns-in_ok-note_term-in-Is : goal.returns-in_ok-note_term-in-Is
returns-in_ok-note_term-in-Is c = λ names.
    let ss : List Shape = shapes_under names c.args.parts.now in
    subst (λ i. OnOk c.note_term-in-Is-2.result (own c.note_term-in-Is-2.new.variables.items
    ≡ first_seen (own c.args.variables.now.items) (variables_of (item_term (item_of ss (node_item i))))))
    (sym c.in-Is.is)
    (on_ok_weaker c.note_term-in-Is-2.result
    (two_noted c.args.variables.now.items c.note_term-in-Is.new.variables.items c.note_term-in-Is-2.new.variables.items
    (variables_of (node_term ss c.in-Is.left.0)) (variables_of (node_term ss c.in-Is.right.0))
    (c.in_ok-note_term-in-Is.ensures names)) (c.note_term-in-Is-2.ensures names))

pub returns-in_ok-note_term-in-Compare : goal.returns-in_ok-note_term-in-Compare
returns-in_ok-note_term-in-Compare c = λ names.
    let ss : List Shape = shapes_under names c.args.parts.now in
    subst (λ i. OnOk c.note_term-in-Compare-2.result (own c.note_term-in-Compare-2.new.variables.items
    ≡ first_seen (own c.args.variables.now.items) (variables_of (item_term (item_of ss (node_item i))))))
    (sym c.in-Compare.is)
    (on_ok_weaker c.note_term-in-Compare-2.result
    (two_noted c.args.variables.now.items c.note_term-in-Compare.new.variables.items c.note_term-in-Compare-2.new.variables.items
    (variables_of (node_term ss c.in-Compare.left.0)) (variables_of (node_term ss c.in-Compare.right.0))
    (c.in_ok-note_term-in-Compare.ensures names)) (c.note_term-in-Compare-2.ensures names))
