use Rattle.and_model.specs.Listing
use Rattle.and_answers.specs.Kept.{outcome_with}
use Rattle.and_walk.proofs.Finding.{found_end, few_more}
use Rattle.and_walk.proofs.finder.FinderVisitor.see_end.Goals as goal

pub returns-in-Ok-clause-told : goal.returns-in-Ok-clause-told
returns-in-Ok-clause-told c = λ seen has.
    let s = c.args.self.now in
    let n = c.add.new.self in
    let e : Listing.Entry = record { code = c.args.named.value; outcome = outcome_with c.args.floundered c.args.line } in (
      found_end s.found n seen c.args._depth e has.0 c.in-Ok.ensures.ok c.add.ensures.end,
      few_more s.most s.found n e c.requires.going c.in-Ok.ensures.ok,
    )
