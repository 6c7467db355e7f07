use Rattle.std.proofs.Common.{ℕ, List, ◌-◌, ◌<◌, length, sym, subst, arith}
use Rattle.std.proofs.lemmas.List.Elements.{All-get_or}
use Rattle.and_pending.specs.Pending.{IsWithin}
use Rattle.and_pending.proofs.WatchedGoals.{left_within}
use Rattle.and_pending.proofs.pending.PendingGoals.last_is_woken.Goals as goal

pub sleeps-requires : goal.sleeps-requires
sleeps-requires g c =
    let cells = c.self.inside.cells.items in
    let left = c.self.inside.left.items in
    let last = c.len-count.result - 1 in
    let p = c.index-last.result.now in
    let low : last < length left = let some = c.if-count-eq0.false in let many = c.len-count.ensures in omega arith in
    let each = left_within cells left c.self.inside.right.items c.self.invariant in
    subst (λ (l : List ℕ). IsWithin l p) (sym c.deref.ensures.value)
    (subst (IsWithin cells) (sym c.index-last.ensures) (All-get_or (IsWithin cells) left last p low each))
