use Rattle.std.proofs.Common.{ℕ, List, ◌≡◌, ◌<◌, ◌≤◌, ◌∙◌, length, get_or, sym, ap, refl, arith}
use Rattle.std.proofs.lemmas.List.{take_all, take_more_same}
use Rattle.and_model.specs.declared.numbers.NodeNo.{NodeNo}
use Rattle.and_clauses.proofs.known.are_same.Goals as goal

pub loop-place-init : goal.loop-place-init
loop-place-init c = refl

pub loop-place-preserved : goal.loop-place-preserved
loop-place-preserved c =
    let xs : List NodeNo = c.args.one.now in
    let ys : List NodeNo = c.args.other.now in
    let i : ℕ = c.loop-place.place in
    let first : NodeNo = record { 0 = 0 } in
    let within : i < length xs = omega arith in
    let same : length xs ≡ length ys = omega arith in
    let e : (get_or xs i first).0 ≡ (get_or ys i first).0 = omega arith in
    take_more_same xs ys i first within (omega (arith, within, same)) c.loop-place.invariant (ap (λ n. let m : NodeNo = record { 0 = n } in m) e)

pub returns : goal.returns
returns c = λ yes.
    let xs : List NodeNo = c.args.one.now in
    let ys : List NodeNo = c.args.other.now in
    let i : ℕ = c.loop-place.place in
    let past : length xs ≤ i = omega arith in
    let same : length xs ≡ length ys = omega arith in
    sym (take_all i xs past) ∙ c.loop-place.invariant ∙ take_all i ys (omega (arith, past, same))
