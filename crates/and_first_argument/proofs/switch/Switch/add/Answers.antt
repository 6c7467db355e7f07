use Rattle.std.proofs.Common.{ap, sym, subst, ◌∙◌, rules}
use Rattle.std.specs.Prelude.{Contains, position}
use Rattle.and_first_argument.specs.Keys.{same_key}
use Rattle.and_first_argument.specs.Tables.{Table}
use Rattle.and_first_argument.proofs.TablesLemmas.{clause_added}
use Rattle.and_first_argument.proofs.KeysLemmas.{not_contained, found_contained}
use Rattle.and_first_argument.proofs.switch.Switch.add.Goals as goal

pub returns-in_ok-add-in-Some-clause-ok : goal.returns-in_ok-add-in-Some-clause-ok
returns-in_ok-add-in-Some-clause-ok g c =
    let table : Table = record { keys = c.self.inside.keys.items; lists = c.self.inside.lists } in
    let found = ap (position (same_key c.args.key)) (sym c.deref.ensures.value) ∙ sym c.place_of.ensures ∙ c.in-Some.is in
    clause_added c.args.key c.args.clause table c.args.self.now c.in-Some.place c.add.new.self
    c.self.view_is c.self.invariant.0 found c.in_ok-add-in-Some.ensures.ok

pub returns-in_ok-add-in-Some-clause-full : goal.returns-in_ok-add-in-Some-clause-full
returns-in_ok-add-in-Some-clause-full g c = λ full.
    let found = ap (position (same_key c.args.key)) (sym c.deref.ensures.value) ∙ sym c.place_of.ensures ∙ c.in-Some.is in
    let held = found_contained c.self.inside.keys.items c.args.key c.in-Some.place found in
    absurd (full.1 (subst (λ (t : Table). Contains t.keys c.args.key) c.self.view_is held))

pub returns-in_err-add-in-Some-clause-full : goal.returns-in_err-add-in-Some-clause-full
returns-in_err-add-in-Some-clause-full g c = λ full.
    let found = ap (position (same_key c.args.key)) (sym c.deref.ensures.value) ∙ sym c.place_of.ensures ∙ c.in-Some.is in
    let held = found_contained c.self.inside.keys.items c.args.key c.in-Some.place found in
    absurd (full.1 (subst (λ (t : Table). Contains t.keys c.args.key) c.self.view_is held))

pub returns-in-None-clause-only_full : goal.returns-in-None-clause-only_full
returns-in-None-clause-only_full g c = λ refused is.
    let absent = ap (position (same_key c.args.key)) (sym c.deref.ensures.value) ∙ sym c.place_of.ensures ∙ c.in-None.is in
    rw (← c.self.view_is) (cc, (search rules, not_contained c.self.inside.keys.items c.args.key absent))
