use Rattle.std.proofs.Common.{ℕ, ◌<◌, List, length, refl, sym, subst, inl}
use Rattle.std.specs.Prelude.{All}
use Rattle.and_model.specs.Solutions.{Solves}
use Rattle.and_model.specs.declared.reference.Ref.{Ref}
use Rattle.and_unify.specs.Setting.{HaveBeenSet}
use Rattle.and_unify.specs.Settling.{Settles, SetsPlaces}
use Rattle.and_unify.specs.declared.pairs.Pair.{Pair}
use Rattle.and_unify.specs.Pairs.{equations_of_pairs}
use Rattle.and_unify.proofs.SettlingTerms.{BoundEnd, binds}
use Rattle.and_unify.proofs.SettlingDone.{listed_in_row, have_been_set, sets_places, judged, settled_apart, broken_off}
use Rattle.and_unify.proofs.settling.settle_into.Goals as goal

pub judge-requires-clause-in_row : goal.judge-requires-clause-in_row
judge-requires-clause-in_row g c =
    subst (λ (xs : List ℕ). All (λ (cell : ℕ). cell < length c.equate.new.cells) xs) (sym c.deref.ensures.value)
    (listed_in_row c.args.cells.now c.equate.new.cells c.args.bound.now.items c.equate.new.bound.items c.requires.empty c.equate.ensures.keeps
    c.equate.ensures.bound)

pub returns-in-Same-clause-settles : goal.returns-in-Same-clause-settles
returns-in-Same-clause-settles g c =
    let P = g.N.Naming.program in
    let old = c.args.cells.now in
    let new = c.equate.new.cells in
    let pairs = c.args.pairs.now in
    let floor = c.args.floor in
    let items = c.equate.new.bound.items in
    let laws = c.laws_of_rows.ensures in
    let given = c.requires in
    let keeps = c.equate.ensures.keeps in
    let bindings = binds P old new pairs floor items laws.falls laws.sound given.in_range given.settled given.no_half given.new keeps
    c.equate.ensures.sets in
    subst (λ (row : List Ref). Settles P old row pairs c.judge.result) (sym c.judge.ensures.same)
    (judged P old new pairs floor items bindings keeps given.written c.equate.ensures.unifies.follows c.judge.result
    (λ w has none t known. c.in-Same.ensures.unifies.equal (inl refl) w has none t known
    (subst (λ (left : List Pair). Solves t (equations_of_pairs P w left)) (sym (c.in-Same.ensures.unifies.same refl)) tt))
    (λ is. subst (BoundEnd P new floor) c.deref.ensures.value
    (record { sound = c.judge.ensures.sound; below = c.judge.ensures.below is; above = c.judge.ensures.above is }))
    c.judge.ensures.no_solution)

pub returns-in-Apart-clause-settles : goal.returns-in-Apart-clause-settles
returns-in-Apart-clause-settles g c =
    let P = g.N.Naming.program in
    let old = c.args.cells.now in
    let new = c.equate.new.cells in
    let pairs = c.args.pairs.now in
    let floor = c.args.floor in
    let items = c.equate.new.bound.items in
    let laws = c.laws_of_rows.ensures in
    let given = c.requires in
    let keeps = c.equate.ensures.keeps in
    let bindings = binds P old new pairs floor items laws.falls laws.sound given.in_range given.settled given.no_half given.new keeps
    c.equate.ensures.sets in
    let both = c.in-Apart.ensures.unifies.apart c.in-Apart.left c.in-Apart.right refl in
    settled_apart P old new pairs floor items bindings keeps given.written c.equate.ensures.unifies.follows both.1

pub returns-in-PutOff-clause-settles : goal.returns-in-PutOff-clause-settles
returns-in-PutOff-clause-settles g c =
    let P = g.N.Naming.program in
    let old = c.args.cells.now in
    let new = c.equate.new.cells in
    let pairs = c.args.pairs.now in
    let floor = c.args.floor in
    let items = c.equate.new.bound.items in
    let laws = c.laws_of_rows.ensures in
    let given = c.requires in
    let keeps = c.equate.ensures.keeps in
    let bindings = binds P old new pairs floor items laws.falls laws.sound given.in_range given.settled given.no_half given.new keeps
    c.equate.ensures.sets in
    broken_off P old new pairs floor items bindings keeps

pub returns-in-Memory-clause-settles : goal.returns-in-Memory-clause-settles
returns-in-Memory-clause-settles g c =
    let P = g.N.Naming.program in
    let old = c.args.cells.now in
    let new = c.equate.new.cells in
    let pairs = c.args.pairs.now in
    let floor = c.args.floor in
    let items = c.equate.new.bound.items in
    let laws = c.laws_of_rows.ensures in
    let given = c.requires in
    let keeps = c.equate.ensures.keeps in
    let bindings = binds P old new pairs floor items laws.falls laws.sound given.in_range given.settled given.no_half given.new keeps
    c.equate.ensures.sets in
    broken_off P old new pairs floor items bindings keeps

pub returns-in-Same-clause-bound : goal.returns-in-Same-clause-bound
returns-in-Same-clause-bound g c =
    subst (λ (row : List Ref). HaveBeenSet c.args.cells.now row c.equate.new.bound.items) (sym c.judge.ensures.same)
    (have_been_set g.N.Naming.program c.args.cells.now c.equate.new.cells c.args.pairs.now c.args.bound.now.items c.equate.new.bound.items c.requires.empty
    c.equate.ensures.keeps
    c.equate.ensures.sets c.equate.ensures.bound)

pub returns-in-Apart-clause-bound : goal.returns-in-Apart-clause-bound
returns-in-Apart-clause-bound g c =
    have_been_set g.N.Naming.program c.args.cells.now c.equate.new.cells c.args.pairs.now c.args.bound.now.items c.equate.new.bound.items c.requires.empty
    c.equate.ensures.keeps
    c.equate.ensures.sets c.equate.ensures.bound

pub returns-in-PutOff-clause-bound : goal.returns-in-PutOff-clause-bound
returns-in-PutOff-clause-bound g c =
    have_been_set g.N.Naming.program c.args.cells.now c.equate.new.cells c.args.pairs.now c.args.bound.now.items c.equate.new.bound.items c.requires.empty
    c.equate.ensures.keeps
    c.equate.ensures.sets c.equate.ensures.bound

pub returns-in-Memory-clause-bound : goal.returns-in-Memory-clause-bound
returns-in-Memory-clause-bound g c =
    have_been_set g.N.Naming.program c.args.cells.now c.equate.new.cells c.args.pairs.now c.args.bound.now.items c.equate.new.bound.items c.requires.empty
    c.equate.ensures.keeps
    c.equate.ensures.sets c.equate.ensures.bound

pub returns-in-Same-clause-places : goal.returns-in-Same-clause-places
returns-in-Same-clause-places g c =
    subst (λ (row : List Ref). SetsPlaces g.N.Naming.program c.args.cells.now row c.args.pairs.now) (sym c.judge.ensures.same)
    (sets_places g.N.Naming.program c.args.cells.now c.equate.new.cells c.args.pairs.now c.equate.new.bound.items c.equate.ensures.sets)

pub returns-in-Apart-clause-places : goal.returns-in-Apart-clause-places
returns-in-Apart-clause-places g c =
    sets_places g.N.Naming.program c.args.cells.now c.equate.new.cells c.args.pairs.now c.equate.new.bound.items c.equate.ensures.sets

pub returns-in-PutOff-clause-places : goal.returns-in-PutOff-clause-places
returns-in-PutOff-clause-places g c =
    sets_places g.N.Naming.program c.args.cells.now c.equate.new.cells c.args.pairs.now c.equate.new.bound.items c.equate.ensures.sets

pub returns-in-Memory-clause-places : goal.returns-in-Memory-clause-places
returns-in-Memory-clause-places g c =
    sets_places g.N.Naming.program c.args.cells.now c.equate.new.cells c.args.pairs.now c.equate.new.bound.items c.equate.ensures.sets
