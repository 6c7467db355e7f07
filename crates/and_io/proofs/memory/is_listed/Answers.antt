use Rattle.std.proofs.Common.{rules, ℕ, ◌<◌, length, sym, ◌∙◌, arith}
use Rattle.std.proofs.lemmas.Option.{get_or_from_slice_get}
use Rattle.and_io.proofs.MemoryLemmas.{none_up_to}
use Rattle.and_io.proofs.memory.is_listed.Goals as goal

pub searching-init : goal.searching-init
searching-init c = λ before below. absurd (omega (arith, below))

pub returns-then-at-number : goal.returns-then-at-number
returns-then-at-number c =
    let item = get_or_from_slice_get c.args.calls.now c.searching.place c.at.result.now c.args.number c.at.ensures in
    let below : c.searching.place < length c.args.calls.now = omega (arith, c.searching-test.true, c.len-place-end.ensures) in
    ((λ _. (c.searching.place, below, item ∙ c.if-at-number.true)), λ _. search rules)

pub searching-preserved : goal.searching-preserved
searching-preserved c =
    let item = get_or_from_slice_get c.args.calls.now c.searching.place c.at.result.now c.args.number c.at.ensures in
    none_up_to c.args.calls.now c.searching.place c.args.number c.searching.invariant (λ same. c.if-at-number.false (sym item ∙ same))

pub returns : goal.returns
returns c =
    let looked : (place : ℕ) → place < length c.args.calls.now → place < c.searching.place =
    λ place below. omega (arith, below, c.searching-test.false, c.len-place-end.ensures) in
    ((λ no. absurd cc), λ has. absurd (c.searching.invariant has.0 (looked has.0 has.1) has.2))
