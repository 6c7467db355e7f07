use Rattle.std.proofs.Common.{Bool, true, false, ◌≡◌, ◌∷◌, ◌∙◌, reverse, sym, ap, subst, arith, rules}
use Rattle.and_cells.specs.Ranges.{NamedProgram}
use Rattle.and_visit.specs.Searched.{IsSearched}
use Rattle.and_visit.specs.Walking.{IsReady, IsLeft, HasTurned, One, places_of, turns}
use Rattle.and_visit.proofs.Going.{searched_so_far, searched_all}
use Rattle.and_visit.proofs.walker.Walker.walk.Goals as goal

pub next_child-requires-clause-left : goal.next_child-requires-clause-left
next_child-requires-clause-left g c =
    let e = c.explore.new.self in
    subst (λ m. IsLeft g.N.Naming.program m (g.V.Visitor.has_seen e.visitor) (reverse e.stack.items) c.explore.new.hand.branch)
    (sym c.explore.ensures.limit) c.in_ok-explore.ensures.after.0

pub returns-then-is_done-clause-searched : goal.returns-then-is_done-clause-searched
returns-then-is_done-clause-searched g c =
    let s = c.walking.self in
    searched_so_far g.N.Naming.program s.limit (g.V.Visitor.has_seen s.visitor) (reverse s.stack.items) c.walking.hand c.args.self.now.limit
    (g.V.Visitor.has_enough s.visitor) c.walking.invariant.ready (sym c.is_done.ensures ∙ c.if-is_done.true) c.walking.invariant.limit

pub walking-preserved : goal.walking-preserved
walking-preserved g c =
    let P : NamedProgram = g.N.Naming.program in
    let e = c.explore.new.self in
    let n = c.next_child.new.self in
    let hand = c.next_child.new.hand in
    let bound = turns e.limit (places_of (reverse e.stack.items)) in
    let there : c.in_ok-is_there.is_there ≡ true = search rules in
    let turned = subst (λ (b : Bool). HasTurned P e.limit bound (g.V.Visitor.has_seen e.visitor) (reverse n.stack.items) hand b) there
    c.in_ok-is_there.ensures.turned in
    record {
      ready = subst (λ v. IsReady P n.limit (g.V.Visitor.has_seen v) (reverse n.stack.items) hand) (sym c.next_child.ensures.visitor)
          (subst (λ m. IsReady P m (g.V.Visitor.has_seen e.visitor) (reverse n.stack.items) hand) (sym c.next_child.ensures.limit)
          turned.0);
      limit = c.next_child.ensures.limit ∙ c.explore.ensures.limit ∙ c.walking.invariant.limit;
      asks = ap (λ v. g.V.Visitor.asks v) c.next_child.ensures.visitor ∙ c.explore.ensures.asks ∙ c.walking.invariant.asks;
    }

pub walking-smaller : goal.walking-smaller
walking-smaller g c =
    let P : NamedProgram = g.N.Naming.program in
    let e = c.explore.new.self in
    let n = c.next_child.new.self in
    let hand = c.next_child.new.hand in
    let bound = turns e.limit (places_of (reverse e.stack.items)) in
    let there : c.in_ok-is_there.is_there ≡ true = search rules in
    let turned = subst (λ (b : Bool). HasTurned P e.limit bound (g.V.Visitor.has_seen e.visitor) (reverse n.stack.items) hand b) there
    c.in_ok-is_there.ensures.turned in
    let less = c.in_ok-explore.ensures.after.1 in
    let same = ap (λ m. turns m (places_of (reverse e.stack.items))) c.explore.ensures.limit in
    let here = ap (λ m. turns m (One hand.depth hand.branch ∷ places_of (reverse n.stack.items))) c.next_child.ensures.limit in
    let fewer = turned.1 in
    omega (arith, less, same, here, fewer)

pub returns-then-not-is_there-clause-searched : goal.returns-then-not-is_there-clause-searched
returns-then-not-is_there-clause-searched g c =
    let P : NamedProgram = g.N.Naming.program in
    let e = c.explore.new.self in
    let n = c.next_child.new.self in
    let bound = turns e.limit (places_of (reverse e.stack.items)) in
    let none : c.in_ok-is_there.is_there ≡ false = search rules in
    let telling = subst (λ (b : Bool). HasTurned P e.limit bound (g.V.Visitor.has_seen e.visitor) (reverse n.stack.items)
    c.next_child.new.hand b) none c.in_ok-is_there.ensures.turned in
    let limit = c.args.self.now.limit in
    subst (λ v. IsSearched P.program limit (g.V.Visitor.has_seen v) (g.V.Visitor.has_enough v)) (sym c.next_child.ensures.visitor)
    (searched_all P e.limit (g.V.Visitor.has_seen e.visitor) limit (g.V.Visitor.has_enough e.visitor) telling
    (c.explore.ensures.limit ∙ c.walking.invariant.limit))

pub returns-then-not-is_there-clause-asks : goal.returns-then-not-is_there-clause-asks
returns-then-not-is_there-clause-asks g c =
    ap (λ v. g.V.Visitor.asks v) c.next_child.ensures.visitor ∙ c.explore.ensures.asks ∙ c.walking.invariant.asks
