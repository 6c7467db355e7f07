use Rattle.std.proofs.Common.{reverse, subst, sym, ◌∷◌}
use Rattle.and_visit.specs.Walking.{HasNext, places_of, turns}
use Rattle.and_visit.specs.declared.stack.Hand.{Hand}
use Rattle.and_visit.proofs.Going.{children_asked, some_asked, key_asked, back_asked, last_ready}
use Rattle.and_visit.proofs.walker.Walker.last_of.Goals as goal

pub last-requires-clause-children : goal.last-requires-clause-children
last-requires-clause-children g c =
    let s = c.args.self.now in
    children_asked g.N.Naming.program s.limit (g.V.Visitor.has_seen s.visitor) (reverse s.stack.items) c.args.level c.args.hand.now.branch
    c.requires.left

pub last-requires-clause-key : goal.last-requires-clause-key
last-requires-clause-key g c =
    let s = c.args.self.now in
    key_asked g.N.Naming.program s.limit (g.V.Visitor.has_seen s.visitor) (reverse s.stack.items) c.args.level c.args.hand.now.branch
    c.requires.left

pub last-requires-clause-some : goal.last-requires-clause-some
last-requires-clause-some g c =
    let s = c.args.self.now in
    some_asked g.N.Naming.program s.limit (g.V.Visitor.has_seen s.visitor) (reverse s.stack.items) c.args.level c.args.hand.now.branch
    c.requires.left

pub last-requires-clause-back : goal.last-requires-clause-back
last-requires-clause-back g c =
    let s = c.args.self.now in
    back_asked g.N.Naming.program s.limit (g.V.Visitor.has_seen s.visitor) (reverse s.stack.items) c.args.level c.args.hand.now.branch
    c.requires.left

pub returns-clause-next : goal.returns-clause-next
returns-clause-next g c =
    let P = g.N.Naming.program in
    let s = c.args.self.now in
    let Seen = g.V.Visitor.has_seen s.visitor in
    let last = c.in_ok-last.ensures in
    let (rest, child) = last.child in
    subst (λ (h : Hand g.row.N.Denot). HasNext P s.limit (turns s.limit (places_of (c.args.level ∷ reverse s.stack.items))) Seen
    (reverse s.stack.items) h) (sym last.placed)
    (last_ready P s.limit Seen (reverse s.stack.items) c.args.level c.args.hand.now.branch c.requires.left rest c.last.new.hand.branch child
    c.requires.few last.back)
