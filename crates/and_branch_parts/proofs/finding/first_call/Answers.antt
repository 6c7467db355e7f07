use Rattle.std.proofs.Common.{◌≡◌, ◌∷◌, ◌∙◌, ◌≤◌, List, length, sym, subst, Contains, rules, arith}
use Rattle.std.proofs.lemmas.Bool.{true≢false}
use Rattle.std.proofs.lemmas.List.{length-map, take_all}
use Rattle.std.proofs.lemmas.List.Elements.{All-contains, Contains-append_right}
use Rattle.and_model.specs.declared.goal.Goal.{Goal}
use Rattle.and_laws.proofs.Ordered.{contains_first}
use Rattle.and_cells.specs.Ranges.{IsGoalInRange}
use Rattle.and_pending.specs.Pending as pending
use Rattle.and_pending.specs.Pending.{goals_of}
use Rattle.and_branch_parts.specs.Finding.{AllCalls}
use Rattle.and_branch_parts.proofs.GoalsFound.{is_call_goal}
use Rattle.and_branch_parts.proofs.HeavyCalls.{no_call_more, first_call_here}
use Rattle.and_branch_parts.proofs.finding.first_call.Goals as goal

pub is_arithmetic-requires-clause-in_range : goal.is_arithmetic-requires-clause-in_range
is_arithmetic-requires-clause-in_range g c =
    let (front, back, all, at) = c.at-goal.ensures in
    All-contains (IsGoalInRange g.N.Naming.program (length c.args.cells.now)) (goals_of c.args.goals.now.left) c.at-goal.result c.requires.in_range
    (subst (λ (l : List Goal). Contains l c.at-goal.result) (sym all)
    (Contains-append_right front (c.at-goal.result ∷ back) c.at-goal.result (contains_first c.at-goal.result back)))

pub returns-then-not-is_arithmetic-clause-some : goal.returns-then-not-is_arithmetic-clause-some
returns-then-not-is_arithmetic-clause-some g c =
    let P = g.N.Naming.program in
    let (front, back, all, at) = c.at-goal.ensures in
    first_call_here (goals_of c.args.goals.now.left) front c.at-goal.result back all c.loop-place.place at P c.loop-place.invariant
    (is_call_goal P c.at-goal.result c.is_arithmetic.result c.is_arithmetic.ensures c.if-not-is_arithmetic.true)

pub loop-place-preserved : goal.loop-place-preserved
loop-place-preserved g c =
    let P = g.N.Naming.program in
    let (front, back, all, at) = c.at-goal.ensures in
    no_call_more (goals_of c.args.goals.now.left) front c.at-goal.result back all c.loop-place.place at P c.loop-place.invariant
    (λ called. true≢false (sym (c.is_arithmetic.ensures.0 c.if-not-is_arithmetic.false) ∙ called))

pub returns-clause-none : goal.returns-clause-none
returns-clause-none g c = λ e.
    let long : length (goals_of c.args.goals.now.left) ≡ length c.args.goals.now.left =
    length-map c.args.goals.now.left (λ (w : pending.Watched). w.goal) in
    let past : length c.args.goals.now.left ≤ c.loop-place.place = search rules in
    subst (λ (l : List Goal). AllCalls g.N.Naming.program (λ h. ⊥) l)
    (take_all c.loop-place.place (goals_of c.args.goals.now.left) (omega arith)) c.loop-place.invariant
