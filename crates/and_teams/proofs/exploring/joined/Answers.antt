use Rattle.std.proofs.Common.{◌≡◌, ◌++◌, ◌∷◌, [], ap, sym, subst, ◌∙◌}
use Rattle.and_answers.specs.Kept.{Merges}
use Rattle.and_teams.proofs.Beginning.{if_not_err}
use Rattle.and_teams.proofs.exploring.joined.Goals as goal

pub returns : goal.returns
returns g c =
    let w = c.args.done in
    let parts = c.in-Some.ensures in (
      parts.0,
      subst (λ f. Merges c.args.found f c.in-Ok.both) parts.1 c.in-Ok.ensures,
      if_not_err c.push.result (c.push.new.self ≡ c.args.passes ++ c.in-Some.pass ∷ []) (sym c.is_err.ensures.value ∙ c.if-is_err.false)
          c.push.ensures.ok
          ∙ ap (λ p. c.args.passes ++ p ∷ []) parts.2,
    )
