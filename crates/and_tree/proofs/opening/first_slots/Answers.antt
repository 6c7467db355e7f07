use Rattle.std.proofs.Common.{◌∙◌, ◌≡◌, ◌+◌, ◌-◌, ◌*◌, ◌++◌, ◌∷◌, [], suc, ap, arith, replicate, Some, None}
use Rattle.and_tree.proofs.Opened.{set_first, replicate_push}
use Rattle.and_tree.proofs.opening.first_slots.Goals as goal

pub loop-cell-preserved : goal.loop-cell-preserved
loop-cell-preserved g c =
    let i = c.loop-cell.invariant in
    let low = c.loop-cell.auto._cell in
    let next : suc (c.loop-cell._cell - 1) ≡ c.loop-cell._cell + 1 - 1 = omega (arith, low) in
    let pushed = c.push_reserved-in-loop-cell.ensures in (
      pushed.items ∙ ap (λ l. l ++ None ∷ []) i.0
          ∙ ap (λ l. Some c.args.root ∷ l) (replicate_push (c.loop-cell._cell - 1) None ∙ ap (λ n. replicate n None) next),
      let room = i.1 in let same = pushed.capacity in omega (arith, room, same),
    )

pub returns : goal.returns
returns g c =
    let i = c.loop-cell.invariant in
    let some_team = c.requires.0 in
    let high = c.loop-cell.auto._cell-end (omega (arith, some_team)) in
    let low = c.loop-cell-test.false in (
      replicate (c.loop-cell._cell - 1) None,
      i.0,
      set_first (8 * c.args.teams) (c.loop-cell._cell - 1) (Some c.args.root) None (omega (arith, some_team)) (omega (arith, high, low, some_team)),
    )
