use Rattle.std.proofs.Common.{◌∙◌, sym, ap}
use Rattle.and_tree.specs.Passes.{PassSeen}
use Rattle.and_teams.proofs.Beginning.{new_at_work}
use Rattle.and_teams.proofs.work.work.Goals as goal

pub works_on-has_failed-requires-clause-at_work : goal.works_on-has_failed-requires-clause-at_work
works_on-has_failed-requires-clause-at_work g c κs within =
    let new = c.into_team-team.ensures in
    new_at_work g.N.Naming.program c.args.shared.now.tree.now c.args.beginning.number c.into_team-team.result
    (new.0 ∙ c.requires.fresh, new.1, new.2, new.3, new.4, new.5)

pub returns-clause-team : goal.returns-clause-team
returns-clause-team g c =
    let team = λ (p : PassSeen). p.team in
    let done = c.works_on-has_failed.new.team in
    ap team c.into_parts-found.ensures.1 ∙ done.number_is ∙ c.works_on-has_failed.ensures.number ∙ sym c.into_team-team.result.number_is
    ∙ ap team (c.into_team-team.ensures.0 ∙ c.requires.fresh)
