use Rattle.std.proofs.Common.{◌∙◌, ◌≡◌, ◌+◌, ◌-◌, ◌++◌, ◌∷◌, [], suc, ap, sym, length, arith}
use Rattle.std.specs.Vec.{vec_len}
use Rattle.and_tree.specs.Passes.{fresh, fresh_from}
use Rattle.and_tree.specs.Sight.{dealing_left}
use Rattle.and_tree.proofs.Dealing.{deals}
use Rattle.and_tree.proofs.Opened.{dealt_rest, fresh_long, one_more_fresh}
use Rattle.and_tree.proofs.Sizes.{live_in}
use Rattle.and_tree.proofs.tree.Tree.deal.Goals as goal

pub split_seat-seat-requires : goal.split_seat-seat-requires
split_seat-seat-requires g c = (
  c.loop-team.invariant.0 ∙ sym (ap (λ z. z.table) c.self.view_is),
  live_in _ _ _ c.self.invariant,
  deals g.B.Keyed.key_of g.B.Keyed.Stands c.self.inside.table.shared.key c.loop-team.rest.id c.loop-team.rest.me.0,
)

pub push_reserved-requires : goal.push_reserved-requires
push_reserved-requires g c =
    let i = c.loop-team.invariant in
    let teams : c.self.inside.teams ≡ c.args.self.now.about.teams = sym c.self.invariant.teams_are ∙ ap (λ z. z.about.teams) c.self.view_is in
    let long : length c.loop-team.passes.items ≡ c.loop-team.team - 1 = ap length i.3 ∙ fresh_long c.args.self.now 0 (c.loop-team.team - 1) in
    let len : vec_len c.loop-team.passes ≡ length c.loop-team.passes.items = c.loop-team.passes.ok.0 in
    let room = i.4 in
    let below = c.loop-team-test.true in
    omega (arith, teams, long, len, room, below)

pub loop-team-preserved : goal.loop-team-preserved
loop-team-preserved g c =
    let i = c.loop-team.invariant in
    let a = c.args.self.now.about in
    let teams : c.self.inside.teams ≡ a.teams = sym c.self.invariant.teams_are ∙ ap (λ z. z.about.teams) c.self.view_is in
    let low = c.loop-team.auto.team in
    let below = c.loop-team-test.true in
    let e = c.split_seat-seat.ensures in
    let last : c.loop-team.team + 1 - 1 ≡ suc (c.loop-team.team - 1) = omega (arith, low) in (
      e.0 ∙ i.0,
      ap (λ m. m.1) e.2 ∙ i.1,
      ap (λ m. m.0) e.2 ∙ ap dealing_left i.2
          ∙ dealt_rest a (c.loop-team.team - 1) (a.teams - (c.loop-team.team - 1)) (c.loop-team.team + 1 - 1) (a.teams - (c.loop-team.team + 1 - 1))
          (omega (arith, low, below, teams)) (omega (arith, low)) (omega (arith, low, below, teams)),
      c.push_reserved.ensures.items ∙ ap (λ p. c.loop-team.passes.items ++ p ∷ []) c.new_pass.ensures
          ∙ ap (λ l. l ++ fresh c.args.self.now (c.loop-team.team - 1) ∷ []) i.3
          ∙ one_more_fresh c.args.self.now (c.loop-team.team - 1) (c.loop-team.team + 1 - 1) last,
      let room = i.4 in let same = c.push_reserved.ensures.capacity in omega (arith, room, same),
    )

pub push_reserved-requires-2 : goal.push_reserved-requires-2
push_reserved-requires-2 g c =
    let i = c.loop-team.invariant in
    let teams : c.self.inside.teams ≡ c.args.self.now.about.teams = sym c.self.invariant.teams_are ∙ ap (λ z. z.about.teams) c.self.view_is in
    let some_team = c.self.invariant.some_team in
    let long : length c.loop-team.passes.items ≡ c.loop-team.team - 1 = ap length i.3 ∙ fresh_long c.args.self.now 0 (c.loop-team.team - 1) in
    let len : vec_len c.loop-team.passes ≡ length c.loop-team.passes.items = c.loop-team.passes.ok.0 in
    let room = i.4 in
    let end = c.loop-team.auto.team-end some_team in
    omega (arith, teams, long, len, room, end, some_team)

pub returns : goal.returns
returns g c =
    let i = c.loop-team.invariant in
    let teams : c.self.inside.teams ≡ c.args.self.now.about.teams = sym c.self.invariant.teams_are ∙ ap (λ z. z.about.teams) c.self.view_is in
    let some_team = c.self.invariant.some_team in
    let end = c.loop-team.auto.team-end some_team in
    let low = c.loop-team-test.false in
    let at : c.loop-team.team - 1 ≡ c.self.inside.teams - 1 = omega (arith, end, low) in
    let all : c.args.self.now.about.teams ≡ suc (c.self.inside.teams - 1) = omega (arith, teams, some_team) in
    c.push_reserved-2.ensures.items ∙ ap (λ p. c.loop-team.passes.items ++ p ∷ []) c.new_pass-2.ensures
    ∙ ap (λ l. l ++ fresh c.args.self.now (c.self.inside.teams - 1) ∷ []) (i.3 ∙ ap (fresh_from c.args.self.now 0) at)
    ∙ one_more_fresh c.args.self.now (c.self.inside.teams - 1) c.args.self.now.about.teams all
