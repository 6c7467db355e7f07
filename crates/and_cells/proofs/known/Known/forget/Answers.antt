use Rattle.std.proofs.Common.{ℕ, length, take, ap, subst, arith}
use Rattle.std.specs.Prelude.{All, Contains}
use Rattle.std.proofs.lemmas.List.{take_all}
use Rattle.std.proofs.lemmas.List.Elements.{All-more, All-weaker}
use Rattle.and_model.specs.declared.reference.Ref.TheVariants.{Cell}
use Rattle.and_cells.proofs.Grounding.{cut_nothing, cut_twice, contains_cut}
use Rattle.and_cells.proofs.known.Known.forget.Goals as goal

pub loop-cell-preserved : goal.loop-cell-preserved
loop-cell-preserved c =
    let old = c.loop-cell.self in
    let new = c.forget_cell.new.self in
    let cut = c.forget_cell.ensures.cut in (
      cut_twice c.args.self.now old new c.loop-cell.invariant.0 cut,
      All-more (λ (cell : ℕ). Contains new (Cell cell) → ⊥) c.args.cells.now c.loop-cell.cell-index 0 (omega arith)
          (All-weaker (λ (cell : ℕ). Contains old (Cell cell) → ⊥) (λ (cell : ℕ). Contains new (Cell cell) → ⊥)
          (λ cell gone has. gone (contains_cut old new (Cell cell) cut has)) (take c.loop-cell.cell-index c.args.cells.now) c.loop-cell.invariant.1)
          c.forget_cell.ensures.gone,
    )

pub loop-cell-init : goal.loop-cell-init
loop-cell-init c = (cut_nothing c.args.self.now, λ k d low. absurd (omega arith))

pub returns-clause-gone : goal.returns-clause-gone
returns-clause-gone c =
    subst (All (λ (cell : ℕ). Contains c.loop-cell.self (Cell cell) → ⊥))
    (take_all c.loop-cell.cell-index c.args.cells.now (omega (arith, c.loop-cell-test.false))) c.loop-cell.invariant.1

pub returns-then-count-eq0-clause-gone : goal.returns-then-count-eq0-clause-gone
returns-then-count-eq0-clause-gone c = λ k d low has.
    let there = has.1 in
    let view = ap length c.self.view_is in
    let count = c.self.inside.references.ok.0 in
    absurd (omega (arith, c.if-count-eq0.true, c.len-count.ensures))

pub returns-then-count-eq0-clause-cut : goal.returns-then-count-eq0-clause-cut
returns-then-count-eq0-clause-cut c = cut_nothing c.args.self.now
