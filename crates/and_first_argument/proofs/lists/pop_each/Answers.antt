use Rattle.std.proofs.Common.{set, ap, sym, ◌∙◌, arith}
use Rattle.std.proofs.lemmas.List.Edits.{map_over_more}
use Rattle.and_first_argument.specs.Lists.{without_last}
use Rattle.and_first_argument.proofs.lists.pop_each.Goals as goal

pub loop-row-preserved : goal.loop-row-preserved
loop-row-preserved c =
    ap (set c.loop-row.rows c.loop-row.row-index) (c.pop.ensures ∙ ap without_last (sym c.row-item.is))
    ∙ map_over_more without_last c.args.rows.now c.loop-row.rows c.loop-row.row-index c.row-item.result
    (omega arith) c.loop-row.invariant c.row-item.is
