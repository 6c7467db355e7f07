use Rattle.std.proofs.Common.{◌<◌, ℕ, List, [], length, sym, subst}
use Rattle.std.specs.Prelude.{All}
use Rattle.std.proofs.lemmas.List.Elements.{All-nil}
use Rattle.and_unify.specs.Settling.{EndsFrom}
use Rattle.and_heads.specs.Calls.{call_and_head}
use Rattle.and_heads.specs.Owing.{EndsAtWord, AreOwed}
use Rattle.and_heads.proofs.Becoming.{all_solved, broken_apart, left_set, broken_set, left_places, broken_places}
use Rattle.and_heads.proofs.settling.settle_call_directly.Goals as goal

pub owed_end-requires-clause-in_row : goal.owed_end-requires-clause-in_row
owed_end-requires-clause-in_row g c =
    let asked = call_and_head g.N.Naming.program c.args.base c.args.call.0 c.args.floor c.args.head.0 in
    let old = c.args.cells.now in
    let new = c.enter_call.new.cells in
    let items = c.enter_call.new.bound.items in
    let laws = c.laws_of_rows.ensures in
    let set = left_set g.N.Naming.program old new asked c.args.floor c.args.bound.now.items items c.requires.empty laws.falls laws.sound
    c.requires.in_range c.requires.written [] c.in-Done.ensures.comes in
    subst (All (λ (cell : ℕ). cell < length new)) (sym c.deref.ensures.value)
    (subst (λ n. All (λ (cell : ℕ). cell < n) items) (sym set.words) set.in_row)

pub owed_end-requires-clause-owed : goal.owed_end-requires-clause-owed
owed_end-requires-clause-owed g c =
    let P = g.N.Naming.program in
    let none : All (EndsAtWord P c.args.floor c.args.cells.now) c.args.bound.now.items =
    subst (All (EndsAtWord P c.args.floor c.args.cells.now)) (sym c.requires.empty) (All-nil (EndsAtWord P c.args.floor c.args.cells.now)) in
    subst (λ (xs : List ℕ). AreOwed P c.args.floor c.enter_call.new.cells xs c.enter_call.new.owed) (sym c.deref.ensures.value) (c.enter_call.ensures.owed none)

pub returns-in-Done-clause-done : goal.returns-in-Done-clause-done
returns-in-Done-clause-done g c = λ is.
    let asked = call_and_head g.N.Naming.program c.args.base c.args.call.0 c.args.floor c.args.head.0 in
    let P = g.N.Naming.program in
    let new = c.enter_call.new.cells in
    let laws = c.laws_of_rows.ensures in
    all_solved P c.args.cells.now new asked c.args.floor c.args.bound.now.items c.enter_call.new.bound.items c.requires.empty laws.falls laws.sound
    c.requires.in_range c.requires.written c.requires.settled c.requires.no_half c.requires.new c.in-Done.ensures.comes c.owed_end.ensures.sound
    (subst (All (EndsFrom P new c.args.floor)) c.deref.ensures.value (c.owed_end.ensures.ends (c.ended.ensures.done is)))

pub returns-in-Done-clause-bound : goal.returns-in-Done-clause-bound
returns-in-Done-clause-bound g c =
    let asked = call_and_head g.N.Naming.program c.args.base c.args.call.0 c.args.floor c.args.head.0 in
    let laws = c.laws_of_rows.ensures in
    left_set g.N.Naming.program c.args.cells.now c.enter_call.new.cells asked c.args.floor c.args.bound.now.items c.enter_call.new.bound.items
    c.requires.empty laws.falls laws.sound c.requires.in_range c.requires.written [] c.in-Done.ensures.comes

pub returns-in-Apart-clause-apart : goal.returns-in-Apart-clause-apart
returns-in-Apart-clause-apart g c = λ is.
    let asked = call_and_head g.N.Naming.program c.args.base c.args.call.0 c.args.floor c.args.head.0 in
    let laws = c.laws_of_rows.ensures in
    let comes = c.in-Apart.ensures.comes in
    broken_apart g.N.Naming.program c.args.cells.now c.enter_call.new.cells asked c.args.floor c.args.bound.now.items c.enter_call.new.bound.items
    c.requires.empty laws.falls laws.sound c.requires.in_range c.requires.written c.requires.settled c.requires.no_half c.requires.new comes.0 comes.1 comes.2

pub returns-in-Apart-clause-bound : goal.returns-in-Apart-clause-bound
returns-in-Apart-clause-bound g c =
    let asked = call_and_head g.N.Naming.program c.args.base c.args.call.0 c.args.floor c.args.head.0 in
    let laws = c.laws_of_rows.ensures in
    let comes = c.in-Apart.ensures.comes in
    broken_set g.N.Naming.program c.args.cells.now c.enter_call.new.cells asked c.args.floor c.args.bound.now.items c.enter_call.new.bound.items
    c.requires.empty laws.falls laws.sound c.requires.in_range c.requires.written comes.0 comes.1 comes.2

pub returns-in-GivenUp-clause-bound : goal.returns-in-GivenUp-clause-bound
returns-in-GivenUp-clause-bound g c =
    let asked = call_and_head g.N.Naming.program c.args.base c.args.call.0 c.args.floor c.args.head.0 in
    let laws = c.laws_of_rows.ensures in
    let comes = c.in-GivenUp.ensures.comes in
    left_set g.N.Naming.program c.args.cells.now c.enter_call.new.cells asked c.args.floor c.args.bound.now.items c.enter_call.new.bound.items
    c.requires.empty laws.falls laws.sound c.requires.in_range c.requires.written comes.0 comes.1

pub returns-in-Done-clause-places : goal.returns-in-Done-clause-places
returns-in-Done-clause-places g c =
    let asked = call_and_head g.N.Naming.program c.args.base c.args.call.0 c.args.floor c.args.head.0 in
    let laws = c.laws_of_rows.ensures in
    left_places g.N.Naming.program c.args.cells.now c.enter_call.new.cells asked c.args.floor c.args.bound.now.items c.enter_call.new.bound.items
    c.requires.empty laws.falls laws.sound c.requires.in_range c.requires.written [] c.in-Done.ensures.comes

pub returns-in-Apart-clause-places : goal.returns-in-Apart-clause-places
returns-in-Apart-clause-places g c =
    let asked = call_and_head g.N.Naming.program c.args.base c.args.call.0 c.args.floor c.args.head.0 in
    let laws = c.laws_of_rows.ensures in
    let comes = c.in-Apart.ensures.comes in
    broken_places g.N.Naming.program c.args.cells.now c.enter_call.new.cells asked c.args.floor c.args.bound.now.items c.enter_call.new.bound.items
    c.requires.empty laws.falls laws.sound c.requires.in_range c.requires.written comes.0 comes.1 comes.2

pub returns-in-GivenUp-clause-places : goal.returns-in-GivenUp-clause-places
returns-in-GivenUp-clause-places g c =
    let asked = call_and_head g.N.Naming.program c.args.base c.args.call.0 c.args.floor c.args.head.0 in
    let laws = c.laws_of_rows.ensures in
    let comes = c.in-GivenUp.ensures.comes in
    left_places g.N.Naming.program c.args.cells.now c.enter_call.new.cells asked c.args.floor c.args.bound.now.items c.enter_call.new.bound.items
    c.requires.empty laws.falls laws.sound c.requires.in_range c.requires.written comes.0 comes.1
