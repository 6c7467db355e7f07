use Rattle.std.proofs.Common.{ℕ, ◌≡◌, length, ap, subst, inl, inr, arith}
use Rattle.std.specs.Prelude.{Contains}
use Rattle.std.proofs.lemmas.Bool.{cases_lt}
use Rattle.and_model.specs.declared.reference.Ref.TheVariants.{Cell}
use Rattle.and_cells.proofs.Grounding.{cut_nothing, cut_twice, contains_cut}
use Rattle.and_cells.proofs.known.Known.forget_between.Goals as goal

pub loop-cell-preserved : goal.loop-cell-preserved
loop-cell-preserved c =
    let old = c.loop-cell.self in
    let new = c.forget_cell.new.self in
    let cut = c.forget_cell.ensures.cut in (
      cut_twice c.args.self.now old new c.loop-cell.invariant.0 cut,
      λ k low high has. elim (cases_lt k c.loop-cell.cell) [
        | inl before ↦ c.loop-cell.invariant.1 k low before (contains_cut old new (Cell k) cut has)
        | inr last ↦
            let same : k ≡ c.loop-cell.cell = omega arith in
            c.forget_cell.ensures.gone (subst (λ (n : ℕ). Contains new (Cell n)) same has)
      ],
    )

pub loop-cell-init : goal.loop-cell-init
loop-cell-init c = (cut_nothing c.args.self.now, λ k low high. absurd (omega arith))

pub returns-clause-gone : goal.returns-clause-gone
returns-clause-gone c = λ cell low high. c.loop-cell.invariant.1 cell low (omega (arith, c.loop-cell-test.false))

pub returns-then-count-eq0-clause-gone : goal.returns-then-count-eq0-clause-gone
returns-then-count-eq0-clause-gone c = λ cell low high has.
    let there = has.1 in
    let view = ap length c.self.view_is in
    let count = c.self.inside.references.ok.0 in
    absurd (omega (arith, c.if-count-eq0.true, c.len-count.ensures))

pub returns-then-count-eq0-clause-cut : goal.returns-then-count-eq0-clause-cut
returns-then-count-eq0-clause-cut c = cut_nothing c.args.self.now
