use Rattle.std.proofs.Common.{ℕ, ◌≡◌, List, subst}
use Rattle.std.proofs.lemmas.List.{take_all}
use Rattle.std.proofs.lemmas.List.Elements.{All-more}
use Rattle.and_model.specs.declared.reference.Ref.TheVariants.{Free}
use Rattle.and_cells.specs.Seen.{word_at}
use Rattle.and_cells.specs.Seen.{AreFree}
use Rattle.and_pending.proofs.watch.all_free.Goals as goal

pub loop-cell-preserved : goal.loop-cell-preserved
loop-cell-preserved g c =
    All-more (λ (cell : ℕ). word_at c.args.cells.now cell ≡ Free) c.args.which.now c.loop-cell.cell-index _ c.loop-cell-test.true
    c.loop-cell.invariant (c.is_free.ensures c.if-not-is_free.false)

pub returns : goal.returns
returns g c = λ yes.
    subst (λ (cells : List ℕ). AreFree c.args.cells.now cells) (take_all c.loop-cell.cell-index c.args.which.now c.loop-cell-test.false)
    c.loop-cell.invariant
