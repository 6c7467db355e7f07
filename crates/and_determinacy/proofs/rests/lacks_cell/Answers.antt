use Rattle.std.proofs.Common.{ℕ, ◌≢◌, ◌<◌, length, take, get_or, sym, subst, arith}
use Rattle.std.specs.Prelude.{All}
use Rattle.std.proofs.lemmas.List.{take_more, take_all}
use Rattle.std.proofs.lemmas.List.Elements.{All-push}
use Rattle.and_determinacy.proofs.rests.lacks_cell.Goals as goal

pub loop-other-preserved : goal.loop-other-preserved
loop-other-preserved c =
    let others = c.args.others.now in
    let i = c.loop-other.other-index in
    let other : ℕ = get_or others i 0 in
    let low : i < length others = omega arith in
    subst (All (λ (o : ℕ). o ≢ c.args.cell)) (sym (take_more others i 0 low))
    (All-push (λ (o : ℕ). o ≢ c.args.cell) (take i others) other c.loop-other.invariant c.if-other-cell.false)

pub returns : goal.returns
returns c = λ is.
    let others = c.args.others.now in
    subst (All (λ (o : ℕ). o ≢ c.args.cell)) (take_all c.loop-other.other-index others (omega arith)) c.loop-other.invariant
