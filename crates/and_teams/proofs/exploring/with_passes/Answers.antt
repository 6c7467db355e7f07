use Rattle.std.proofs.Common.{◌≡◌, ◌++◌, ◌∷◌, [], length, length-append, reverse, sym, ap, subst, ◌∙◌, arith}
use Rattle.and_teams.specs.Ended.{AreFresh}
use Rattle.and_teams.proofs.Beginning.{last_team, begun_one, fresh_long, fresh_items, all_fresh}
use Rattle.and_teams.proofs.exploring.with_passes.Goals as goal

pub overflow_cast-number : goal.overflow_cast-number
overflow_cast-number g c =
    let i = c.loop-pass.invariant in
    let t = last_team c.args.shared.now.tree.now i.0 c.loop-pass.passes c.pop.new.self c.in-Some.pass i.1 c.in-Some.ensures.last in
    omega (arith, c.args.shared.now.few_teams.1, i.3, t.1, c.len-number.ensures)

pub new-requires : goal.new-requires
new-requires g c =
    let i = c.loop-pass.invariant in
    let t = last_team c.args.shared.now.tree.now i.0 c.loop-pass.passes c.pop.new.self c.in-Some.pass i.1 c.in-Some.ensures.last in
    t.0 ∙ sym c.len-number.ensures

pub loop-pass-init : goal.loop-pass-init
loop-pass-init g c =
    let none = c.in_ok-teams.ensures.items in (
      c.args.shared.now.teams,
      c.requires,
      fresh_items c.args.shared.now.tree.now c.args.shared.now.teams [] c.in_ok-teams.teams.items none tt,
      (let long = ap length none in omega (arith, long)),
    )

pub loop-pass-preserved : goal.loop-pass-preserved
loop-pass-preserved g c =
    let i = c.loop-pass.invariant in
    let tree = c.args.shared.now.tree.now in
    let teams = c.loop-pass.teams.items in
    let next = begun_one tree i.0 teams c.loop-pass.passes c.pop.new.self c.in-Some.pass c.new.result i.1 c.in-Some.ensures.last i.2 c.new.ensures in
    let long = ap length c.in_ok-push.ensures.items ∙ length-append teams (c.new.result ∷ []) in (
      next.0,
      next.2,
      fresh_items tree next.0 (teams ++ c.new.result ∷ []) c.push.new.self.items c.in_ok-push.ensures.items next.3,
      omega (arith, i.3, next.1, long),
    )

pub returns-clause-fresh : goal.returns-clause-fresh
returns-clause-fresh g c =
    let i = c.loop-pass.invariant in
    let tree = c.args.shared.now.tree.now in
    let none : i.0 ≡ 0 = sym (fresh_long tree 0 i.0) ∙ ap length (sym i.1 ∙ c.in_default.ensures.none.0) in
    (subst (λ n. AreFresh tree n (reverse c.loop-pass.teams.items)) none i.2, omega (arith, none, i.3))

pub returns-clause-each : goal.returns-clause-each
returns-clause-each g c =
    let i = c.loop-pass.invariant in
    let tree = c.args.shared.now.tree.now in
    let none : i.0 ≡ 0 = sym (fresh_long tree 0 i.0) ∙ ap length (sym i.1 ∙ c.in_default.ensures.none.0) in
    all_fresh tree c.loop-pass.teams.items (subst (λ n. AreFresh tree n (reverse c.loop-pass.teams.items)) none i.2)
