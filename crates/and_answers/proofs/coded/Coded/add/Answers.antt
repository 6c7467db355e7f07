use Rattle.std.proofs.Common.{[], ◌∙◌, ap, sym, subst}
use Rattle.and_answers.specs.Kept.{last_code_or, listed}
use Rattle.and_answers.specs.Pieces.{last_or}
use Rattle.and_answers.specs.Tails.{BeginAlike}
use Rattle.and_answers.specs.declared.found.Found.{Found}
use Rattle.and_answers.proofs.AlikeLemmas.{last_of_entries}
use Rattle.and_answers.proofs.coded.Coded.add.Goals as goal

pub push-requires : goal.push-requires
push-requires c =
    let found : Found = c.self.inside.found in
    let last = ap (λ (f : Found). last_code_or [] (listed f)) (sym c.self.view_is) ∙ last_of_entries [] (listed found)
    ∙ ap (last_or []) c.self.invariant in
    subst (λ l. BeginAlike l c.args.code.now c.args.common) last c.requires
