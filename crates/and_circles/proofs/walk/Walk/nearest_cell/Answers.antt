use Rattle.std.proofs.Common.{ℕ, ◌≡◌, ◌<◌, ◌+◌, List, ◌∷◌, length, get_or, reverse, drop, sym, ap, ◌∙◌}
use Rattle.std.proofs.lemmas.List.{at_drop_more, length_push}
use Rattle.std.proofs.lemmas.Iterator.Adapters.{YieldsList-from_rev_slice}
use Rattle.std.proofs.lemmas.Iterator.Consumers.{YieldsList-turn}
use Rattle.and_circles.specs.Walks.{nearest_cell}
use Rattle.and_circles.specs.declared.walk.Visit.{Visit}
use Rattle.and_circles.proofs.walk.Walk.nearest_cell.Goals as goal

at_turn : (visits : List Visit) (n : ℕ) (visit : Visit) → (n < length visits) × (visit ≡ get_or visits n visit)
    → nearest_cell (drop n visits) ≡ nearest_cell (visit ∷ drop (n + 1) visits)
at_turn visits n visit at = at_drop_more nearest_cell visits n visit at.0 ∙ ap (λ v. nearest_cell (v ∷ drop (n + 1) visits)) (sym at.1)

pub returns-in-Some-left_cell : goal.returns-in-Some-left_cell
returns-in-Some-left_cell c =
    let t = YieldsList-turn (YieldsList-from_rev_slice c.args.self.now.visits.items cc) c.loop-visit.yielded _ c.loop-visit.yielded_by _ _ c.in-Some.visit
    c.in-Some.is c.next.ensures.steps in
    sym (c.left_cell.ensures.some c.in-Some-left_cell.cell c.in-Some-left_cell.is
    (drop (length c.loop-visit.yielded + 1) (reverse c.args.self.now.visits.items)))
    ∙ sym (at_turn _ _ _ t) ∙ c.loop-visit.invariant

pub loop-visit-preserved : goal.loop-visit-preserved
loop-visit-preserved c =
    let t = YieldsList-turn (YieldsList-from_rev_slice c.args.self.now.visits.items cc) c.loop-visit.yielded _ c.loop-visit.yielded_by _ _ c.in-Some.visit
    c.in-Some.is c.next.ensures.steps in
    ap (λ (n : ℕ). nearest_cell (drop n (reverse c.args.self.now.visits.items))) (length_push c.loop-visit.yielded c.in-Some.visit)
    ∙ sym (c.left_cell.ensures.none c.in_default.is (drop (length c.loop-visit.yielded + 1) (reverse c.args.self.now.visits.items)))
    ∙ sym (at_turn _ _ _ t) ∙ c.loop-visit.invariant
