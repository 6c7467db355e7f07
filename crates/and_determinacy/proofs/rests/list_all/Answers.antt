use Rattle.std.proofs.Common.{ℕ, ◌<◌, List, length, take, get_or, sym, subst, arith}
use Rattle.std.proofs.lemmas.List.{take_more, take_all}
use Rattle.and_determinacy.specs.Watching.{AreAllListed}
use Rattle.and_determinacy.proofs.Told.{none_listed, another_listed}
use Rattle.and_determinacy.proofs.rests.list_all.Goals as goal

pub loop-cell-init : goal.loop-cell-init
loop-cell-init c = none_listed c.args.out.now.items

pub loop-cell-preserved : goal.loop-cell-preserved
loop-cell-preserved c =
    let cells = c.args.cells.now in
    let i = c.loop-cell.cell-index in
    let cell : ℕ = get_or cells i 0 in
    let low : i < length cells = omega arith in
    subst (λ (cs : List ℕ). AreAllListed cs c.args.out.now.items c.list_cell.new.out.items) (sym (take_more cells i 0 low))
    (another_listed (take i cells) c.args.out.now.items c.loop-cell.out.items c.list_cell.new.out.items cell c.loop-cell.invariant
    c.in_ok-list_cell.ensures)

pub returns : goal.returns
returns c =
    let cells = c.args.cells.now in
    subst (λ (cs : List ℕ). AreAllListed cs c.args.out.now.items c.loop-cell.out.items) (take_all c.loop-cell.cell-index cells (omega arith))
    c.loop-cell.invariant
