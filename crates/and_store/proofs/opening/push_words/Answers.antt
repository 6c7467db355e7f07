use Rattle.std.proofs.Common.{arith, ◌<◌, length}
use Rattle.and_store.proofs.Dealing.{words_next}
use Rattle.and_store.proofs.opening.push_words.Goals as goal

pub loop-cell-preserved : goal.loop-cell-preserved
loop-cell-preserved g c =
    let within : c.loop-cell.cell < length c.args.cells.now = let a = c.loop-cell-test.true in let b = c.len-cell-end.ensures.value in omega (arith, a, b) in
    words_next c.args.cells.now c.loop-cell.cell c.word.result c.push.new.self.items c.to_word.result c.args.row.now.items c.loop-cell.row.items within
    c.word.ensures.value c.word.ensures.named c.to_word.ensures c.loop-cell.invariant.0 c.loop-cell.invariant.1 c.in_ok-push.ensures.items
