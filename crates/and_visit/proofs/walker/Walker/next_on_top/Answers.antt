use Rattle.std.proofs.Common.{◌≡◌, ◌+◌, ◌-◌, length, reverse, take, arith}
use Rattle.and_visit.proofs.Going.{children_asked, some_asked, key_asked, back_asked}
use Rattle.and_visit.proofs.Topped.{some_stacked, left_above, next_above}
use Rattle.and_visit.proofs.walker.Walker.next_on_top.Goals as goal

pub overflow_sub-last : goal.overflow_sub-last
overflow_sub-last g c =
    let s = c.args.self.now in
    let some = some_stacked s.stack.items c.requires.many in
    omega (arith, c.len-last.ensures, some, s.stack.ok.0)

pub index_mut-requires : goal.index_mut-requires
index_mut-requires g c =
    let s = c.args.self.now in
    let some = some_stacked s.stack.items c.requires.many in
    omega (arith, c.len-last.ensures, some, s.stack.ok.0)

pub next-requires-clause-children : goal.next-requires-clause-children
next-requires-clause-children g c =
    let P = g.N.Naming.program in
    let s = c.args.self.now in
    let Seen = g.V.Visitor.has_seen s.visitor in
    let ls = s.stack.items in
    let some = some_stacked ls c.requires.many in
    let long : c.len-last.result - 1 + 1 ≡ length ls = omega (arith, c.len-last.ensures, some, s.stack.ok.0) in
    children_asked P s.limit Seen (reverse (take (c.len-last.result - 1) ls)) c.index_mut.result.now c.args.hand.now.branch
    (left_above P s.limit Seen ls (c.len-last.result - 1) long c.args.hand.now.branch c.requires.left c.index_mut.result.now c.index_mut.ensures.value)

pub next-requires-clause-key : goal.next-requires-clause-key
next-requires-clause-key g c =
    let P = g.N.Naming.program in
    let s = c.args.self.now in
    let Seen = g.V.Visitor.has_seen s.visitor in
    let ls = s.stack.items in
    let some = some_stacked ls c.requires.many in
    let long : c.len-last.result - 1 + 1 ≡ length ls = omega (arith, c.len-last.ensures, some, s.stack.ok.0) in
    key_asked P s.limit Seen (reverse (take (c.len-last.result - 1) ls)) c.index_mut.result.now c.args.hand.now.branch
    (left_above P s.limit Seen ls (c.len-last.result - 1) long c.args.hand.now.branch c.requires.left c.index_mut.result.now c.index_mut.ensures.value)

pub next-requires-clause-some : goal.next-requires-clause-some
next-requires-clause-some g c =
    let P = g.N.Naming.program in
    let s = c.args.self.now in
    let Seen = g.V.Visitor.has_seen s.visitor in
    let ls = s.stack.items in
    let some = some_stacked ls c.requires.many in
    let long : c.len-last.result - 1 + 1 ≡ length ls = omega (arith, c.len-last.ensures, some, s.stack.ok.0) in
    some_asked P s.limit Seen (reverse (take (c.len-last.result - 1) ls)) c.index_mut.result.now c.args.hand.now.branch
    (left_above P s.limit Seen ls (c.len-last.result - 1) long c.args.hand.now.branch c.requires.left c.index_mut.result.now c.index_mut.ensures.value)

pub next-requires-clause-back : goal.next-requires-clause-back
next-requires-clause-back g c =
    let P = g.N.Naming.program in
    let s = c.args.self.now in
    let Seen = g.V.Visitor.has_seen s.visitor in
    let ls = s.stack.items in
    let some = some_stacked ls c.requires.many in
    let long : c.len-last.result - 1 + 1 ≡ length ls = omega (arith, c.len-last.ensures, some, s.stack.ok.0) in
    back_asked P s.limit Seen (reverse (take (c.len-last.result - 1) ls)) c.index_mut.result.now c.args.hand.now.branch
    (left_above P s.limit Seen ls (c.len-last.result - 1) long c.args.hand.now.branch c.requires.left c.index_mut.result.now c.index_mut.ensures.value)

pub returns-clause-next : goal.returns-clause-next
returns-clause-next g c =
    let P = g.N.Naming.program in
    let s = c.args.self.now in
    let Seen = g.V.Visitor.has_seen s.visitor in
    let ls = s.stack.items in
    let some = some_stacked ls c.requires.many in
    let long : c.len-last.result - 1 + 1 ≡ length ls = omega (arith, c.len-last.ensures, some, s.stack.ok.0) in
    let next = c.in_ok-next.ensures in
    next_above P s.limit Seen ls (c.len-last.result - 1) long c.args.hand.now.branch c.requires.left c.index_mut.result.now c.index_mut.ensures.value
    c.requires.many c.next.new.self c.next.new.hand c.next.ensures.same next.child next.back next.length next.left next.depth
