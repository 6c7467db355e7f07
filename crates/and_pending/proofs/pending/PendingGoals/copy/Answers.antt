use Rattle.std.proofs.Common.{◌∙◌}
use Rattle.and_pending.proofs.CopiedGoals.{both_copied, both_within, lefts_within, rights_within}
use Rattle.and_pending.proofs.pending.PendingGoals.copy.Goals as goal

pub put_watched-requires : goal.put_watched-requires
put_watched-requires c =
    lefts_within c.self.inside.cells.items c.self.inside.left.items c.self.inside.right.items c.self.invariant c.deref-4.result.now c.deref-3.result.now
    c.deref-4.ensures.value c.deref-3.ensures.value

pub put_watched-requires-2 : goal.put_watched-requires-2
put_watched-requires-2 c =
    rights_within c.self.inside.cells.items c.self.inside.left.items c.self.inside.right.items c.self.invariant c.deref-6.result.now c.deref-5.result.now
    c.deref-6.ensures.value c.deref-5.ensures.value

pub invariant_of-result : goal.invariant_of-result
invariant_of-result c =
    let left = c.self.inside.left.items in
    let right = c.self.inside.right.items in
    let cells = c.self.inside.cells.items in
    both_within cells left right c.deref-4.result.now c.deref-3.result.now c.deref-4.ensures.value c.deref-3.ensures.value
    c.in_ok-cells.cells.items c.put_watched.new.cells.items c.in_ok-left.left.items c.put_watched.new.list.items c.in_ok-put_watched.ensures
    c.in_ok-left.ensures.items c.deref-6.result.now c.deref-5.result.now c.deref-6.ensures.value c.deref-5.ensures.value
    c.put_watched-2.new.cells.items c.in_ok-right.right.items c.put_watched-2.new.list.items c.in_ok-put_watched-2.ensures c.in_ok-right.ensures.items

pub returns : goal.returns
returns c =
    let left = c.self.inside.left.items in
    let right = c.self.inside.right.items in
    let cells = c.self.inside.cells.items in
    both_copied cells left right c.deref-4.result.now c.deref-3.result.now c.deref-4.ensures.value c.deref-3.ensures.value
    c.in_ok-cells.cells.items c.put_watched.new.cells.items c.in_ok-left.left.items c.put_watched.new.list.items c.in_ok-put_watched.ensures
    c.in_ok-left.ensures.items c.deref-6.result.now c.deref-5.result.now c.deref-6.ensures.value c.deref-5.ensures.value
    c.put_watched-2.new.cells.items c.in_ok-right.right.items c.put_watched-2.new.list.items c.in_ok-put_watched-2.ensures c.in_ok-right.ensures.items
    ∙ c.self.view_is
