use Rattle.std.proofs.Common.{◌∙◌, ap, sym, Some}
use Rattle.and_model.specs.Listing
use Rattle.and_answers.specs.Kept.{outcome_with}
use Rattle.and_answers.proofs.BesideLemmas.{last_more}
use Rattle.and_answers.proofs.latest.Latest.add.Goals as goal

pub invariant_of-self : goal.invariant_of-self
invariant_of-self c =
    let entry : Listing.Entry = record { code = c.of.result.value; outcome = outcome_with c.args.floundered c.args.line } in
    ap (λ code. Some code) (sym c.of.ensures) ∙ last_more c.self.inside.found c.add.new.self entry c.in-Ok.ensures.ok
