use Rattle.std.proofs.Common.{List, ◌≤◌, reverse, sym, subst, arith}
use Rattle.and_visit.specs.Walking.{IsLeft, HasNext, Telling, left_on_top, places_of, turns}
use Rattle.and_visit.specs.declared.stack.Level.{Level}
use Rattle.and_visit.proofs.walker.Walker.next_child.Goals as goal

pub next_on_top-requires-clause-many : goal.next_on_top-requires-clause-many
next_on_top-requires-clause-many g c = omega (arith, c.left_on_top-left.ensures, c.if-left-gt1.true)

pub last_of-requires-clause-left : goal.last_of-requires-clause-left
last_of-requires-clause-left g c =
    let s = c.args.self.now in
    subst (λ (ls : List (Level g.row.N.Denot)). IsLeft g.N.Naming.program s.limit (g.V.Visitor.has_seen s.visitor) ls c.args.hand.now.branch)
    c.in-Some.ensures.some c.requires.left

pub last_of-requires-clause-few : goal.last_of-requires-clause-few
last_of-requires-clause-few g c =
    subst (λ (ls : List (Level g.row.N.Denot)). left_on_top ls ≤ 1) c.in-Some.ensures.some
    (omega (arith, c.left_on_top-left.ensures, c.if-left-gt1.false))

pub returns-in-None-clause-turned : goal.returns-in-None-clause-turned
returns-in-None-clause-turned g c =
    let s = c.args.self.now in
    subst (λ (ls : List (Level g.row.N.Denot)). Telling g.N.Naming.program s.limit (g.V.Visitor.has_seen s.visitor) (places_of ls))
    c.in-None.ensures.none c.requires.left.telling

pub returns-in_ok-last_of-in-Some-clause-turned : goal.returns-in_ok-last_of-in-Some-clause-turned
returns-in_ok-last_of-in-Some-clause-turned g c =
    let s = c.args.self.now in
    subst (λ (ls : List (Level g.row.N.Denot)). HasNext g.N.Naming.program s.limit (turns s.limit (places_of ls))
    (g.V.Visitor.has_seen s.visitor) (reverse c.last_of.new.self.stack.items) c.last_of.new.hand) (sym c.in-Some.ensures.some)
    c.in_ok-last_of-in-Some.ensures.next
