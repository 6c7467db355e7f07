use Rattle.std.proofs.Common.{◌≡◌, ◌<◌, length, get_or, sym, ap, ◌∙◌, subst, arith}
use Rattle.std.specs.Prelude.{Contains}
use Rattle.and_arith.specs.Taken.{Listed, no_entry, entry_of}
use Rattle.and_arith.proofs.Listing.{taken_at, length_of, cell_of, any_default}
use Rattle.and_arith.proofs.taken.Taken.of.Goals as goal

pub index-requires : goal.index-requires
index-requires c =
    let at = c.position.ensures.some c.in-Some.place c.in-Some.is in
    omega (arith, at.0, length_of c.self.inside.entries.items c.args.self.now c.self.view_is, c.self.inside.entries.ok.0)

pub returns-in-Some-clause-taken : goal.returns-in-Some-clause-taken
returns-in-Some-clause-taken c = λ v e.
    let items = c.self.inside.entries.items in
    let found = c.position.ensures.some c.in-Some.place c.in-Some.is in
    let below : c.in-Some.place < length items = omega (arith, found.0, length_of items c.args.self.now c.self.view_is) in
    let is : c.index.result.now.value ≡ v = cc in
    let read : c.index.result.now ≡ get_or items c.in-Some.place no_entry =
    c.index.ensures ∙ any_default items c.in-Some.place c.index.result.now no_entry below in
    let at = ap (λ e. e.cell) read ∙ sym (cell_of items c.args.self.now c.in-Some.place (entry_of no_entry) c.self.view_is below) ∙ found.1 in
    subst (λ w. Contains c.args.self.now (c.args.cell, w)) is
    (subst (λ (l : Listed). Contains l (c.args.cell, c.index.result.now.value)) c.self.view_is
    (taken_at items c.in-Some.place c.args.cell c.index.result.now below read at))

pub returns-in-None-clause-new : goal.returns-in-None-clause-new
returns-in-None-clause-new c = λ new. c.position.ensures.none c.in-None.is
